-- `ieee::narrow_bits` meets its contract: each way out is a law of `specs/Narrowing.antt`.
-- Assumes nothing.
use Rattle.std.specs.Prelude.{◌^◌}
use mathlib.Core.Path.{◌≡◌, sym, ap, ◌∙◌, subst}
use Prim.Native.Nat.{ℕ, ◌+◌, ◌-◌, ◌*◌, ◌/◌, ◌%◌, ◌<◌, ◌≤◌}
use native.Mathlib.Nat.{one-mul, mod-eq_of_lt}
use native.Mathlib.Omega.{arith}
use lib.Pow.{pow_pos, pow-lt, pow-add}
use lib.Ieee.Nearest.{closest}
use Rattle.ieee.specs.Inner.{Narrowed}
use Rattle.ieee.specs.Narrowing.{narrow_sub, narrow_normal}
use Rattle.ieee.proofs.narrow_bits.Goals as goal

sub_way : (b q p : ℕ) → q ≡ closest (b % 4503599627370496 + 4503599627370496) p → p ≡ 2 ^ (926 - b / 4503599627370496)
    → 872 < b / 4503599627370496 → b / 4503599627370496 < 897 → Narrowed b q
sub_way b q p e f low high =
    subst (λ (q : ℕ). Narrowed b q) (sym (e ∙ ap (λ (p : ℕ). closest (b % 4503599627370496 + 4503599627370496) p) f)) (narrow_sub b low high)

normal_way : (b q : ℕ) → q ≡ closest (b % 4503599627370496 + 4503599627370496) 536870912
    → 897 ≤ b / 4503599627370496 → b / 4503599627370496 ≤ 1150 → Narrowed b ((b / 4503599627370496 - 897) * 8388608 + q)
normal_way b q e low high = subst (λ (q : ℕ). Narrowed b ((b / 4503599627370496 - 897) * 8388608 + q)) (sym e) (narrow_normal b low high)

-- 1 moved up by fewer places than a word has
moved_up : (d : ℕ) → d < 64 → 1 * 2 ^ d % 18446744073709551616 ≡ 2 ^ d
moved_up d h = ap (λ (x : ℕ). x % 18446744073709551616) (one-mul _) ∙ mod-eq_of_lt (pow-lt h)

even_power : (d : ℕ) → 0 < d → 2 ^ d % 2 ≡ 0
even_power d h = let e : 2 ^ d ≡ 2 * 2 ^ (d - 1) = ap (λ (x : ℕ). 2 ^ x) (parted d h) ∙ pow-add 2 1 (d - 1) in omega (arith, e)
  where
    parted : (d : ℕ) → 0 < d → d ≡ 1 + (d - 1)
    parted d h = omega arith

pub closest-requires : goal.closest-requires
closest-requires c =
    let d = 926 - c.args.b / 4503599627370496 in
    let e : 1 * 2 ^ d % 18446744073709551616 ≡ 2 ^ d = moved_up d (omega arith) in
    (rw e (pow_pos d), rw e (even_power d (omega arith)), rw e (pow-lt {j = 63} (omega arith)), omega arith)

pub overflow_cast-result : goal.overflow_cast-result
overflow_cast-result c =
    let p = moved_up (926 - c.args.b / 4503599627370496) (omega arith) in
    let w : Narrowed c.args.b c.closest.result = sub_way _ _ _ c.closest.ensures p (omega (arith, c.if-e-lt873.false)) c.if-e-lt897.true in
    record { fits = omega (arith, w.low) }

pub returns-then-e-lt897 : goal.returns-then-e-lt897
returns-then-e-lt897 c =
    let p = moved_up (926 - c.args.b / 4503599627370496) (omega arith) in
    sub_way _ _ _ c.closest.ensures p (omega (arith, c.if-e-lt873.false)) c.if-e-lt897.true

pub returns : goal.returns
returns c = normal_way _ _ c.closest-2.ensures c.if-e-lt897.false c.if-e-gt1150.false
