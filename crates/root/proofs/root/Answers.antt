-- `root::root` meets its contract: each case of x's bits is a law of `proofs/Cases.antt`.
-- Assumes nothing.
use mathlib.Core.Path.{sym, subst, ap, ◌∙◌}
use mathlib.Core.Path.{◌≡◌}
use Prim.Native.Nat.{ℕ, ◌%◌, ◌≤◌, ◌<◌}
use lib.Dec.{T}
use mathlib.Core.Bool.{true}
use lib.Ieee.{Float, binary64, fits, to_bits}
use lib.Ieee.Bits.{of_bits-to_bits, to_bits-lt}
use native.Mathlib.Omega.{arith}
use Rattle.root.specs.Root.{root_of}
use Rattle.ieee.specs.Nans.{is_the_nan, is_number}
use Rattle.ieee.specs.Patterns.{no_nan_bits, bits_in}
use Rattle.root.proofs.Cases.{root_negative, root_same, same_zero, same_minus, same_inf, root_nan, zero_by_zero}
use Rattle.root.proofs.root.Goals.{then-b-eq9218868437227405312-via-then-b-eq9218868437227405312}
use Rattle.root.proofs.root.Goals.{then-b-eq9218868437227405312-via-else-b-eq9218868437227405312+then-b}
use Rattle.root.proofs.root.Goals as goal

-- what owning an f64 tells: the format holds it
held : (x : Float) → fits binary64 x ≡ true → T (fits binary64 x)
held x e = subst T (sym e) tt

pub returns-then-is_nan : goal.returns-then-is_nan
returns-then-is_nan c = root_nan c.args.x (is_the_nan c.args.x (sym c.is_nan.ensures.value ∙ c.if-is_nan.true))

pub returns-then-b-eq0 : goal.returns-then-b-eq0
returns-then-b-eq0 c = root_same c.args.x 0 (held c.args.x c.well_formed.0.1) c.if-b-eq0.true same_zero

pub float_from_bits-result : goal.float_from_bits-result
float_from_bits-result c = no_nan_bits binary64 c.positive_root.result (omega (arith, c.positive_root.ensures.1))

pub returns-then-b-lt9218868437227405312 : goal.returns-then-b-lt9218868437227405312
returns-then-b-lt9218868437227405312 c =
    c.positive_root.ensures.0 ∙ ap root_of (of_bits-to_bits binary64 c.args.x (held c.args.x c.well_formed.0.1))

pub returns-then-b-eq9218868437227405312 : goal.returns-then-b-eq9218868437227405312
returns-then-b-eq9218868437227405312 c =
    let h = held c.args.x c.well_formed.0.1 in
    elim c.then-b-eq9218868437227405312.branch [
      | then-b-eq9218868437227405312-via-then-b-eq9218868437227405312 w ↦ root_same c.args.x _ h w.if-b-eq9218868437227405312.true same_inf
      | then-b-eq9218868437227405312-via-else-b-eq9218868437227405312+then-b w ↦ root_same c.args.x _ h w.if-b.true same_minus
    ]

pub returns : goal.returns
returns c =
    let x = c.args.x in
    let b = to_bits binary64 x in
    let m = bits_in binary64 x (held c.args.x c.well_formed.0.1) (is_number x (sym c.is_nan.ensures.value ∙ c.if-is_nan.false)) in
    let l = to_bits-lt binary64 x (held c.args.x c.well_formed.0.1) in
    zero_by_zero ∙ sym (root_negative b (above b c.if-b-lt9218868437227405312.false c.if-b-eq9218868437227405312.false c.if-b.false m) l m)
    ∙ ap root_of (of_bits-to_bits binary64 x (held c.args.x c.well_formed.0.1))
  where
    above : (b : ℕ) → 9218868437227405312 ≤ b → (b ≡ 9218868437227405312 → ⊥) → (b ≡ 9223372036854775808 → ⊥)
        → b % 9223372036854775808 ≤ 9218868437227405312 → 9223372036854775808 < b
    above b h k n m = omega arith
