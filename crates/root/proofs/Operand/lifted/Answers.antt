-- `root::Operand::lifted` meets its contract: a number of j + 1 digits, below 53, is given 53 or 54 by half of what 53 has over j.
-- Assumes nothing.
use Rattle.std.proofs.Common.{ℕ, suc, ◌+◌, ◌-◌, ◌*◌, ◌/◌, ◌%◌, ◌^◌, ◌≤◌, ◌<◌, ◌≡◌, refl, ap, ◌∙◌, arith, mul-le-mul_right, mul-lt-mul_of_pos_right}
use Rattle.std.proofs.Common.{pow_pos, pow_mono, pow-add, mod-eq_of_lt}
use Rattle.std.proofs.lemmas.Nat.{leading_top}
use native.Mathlib.Nat.{lt_of_not-le}
use lib.Count.{count_leading_zeros}
use Rattle.ieee.specs.Numbers.{shift}
use Rattle.root.specs.Inner.{Lifted}
use Rattle.root.proofs.Operand.lifted.Goals as goal

-- the place j of the first digit
record First (a : ℕ) : Type 0 where
  j : ℕ
  zeros : count_leading_zeros 64 a + suc j ≡ 64
  low : 2 ^ j ≤ a
  high : a < 2 ^ suc j
  few : j < 52

first : (a : ℕ) → 0 < a → a < 4503599627370496 → First a
first a some small =
    let t = leading_top 64 a some (omega arith) in
    record { j = t.0; zeros = t.1; low = t.2; high = t.3; few = lt_of_not-le (λ (g : 52 ≤ t.0). omega (arith, pow_mono g, t.2)) }

lift : (a i j : ℕ) → 2 ^ j ≤ a → a < 2 ^ suc j → j < 52 → i ≡ (53 - j) / 2 → Lifted a (a * 2 ^ (2 * i) % 18446744073709551616) i
lift a i j low high few e =
    let doubled : 2 * i ≡ i + i = omega arith in
    let p = 2 ^ (i + i) in
    let enough : 52 ≤ j + (i + i) = omega arith in
    let most : suc j + (i + i) ≤ 54 = omega arith in
    let least : 4503599627370496 ≤ a * p = omega (arith, pow_mono enough, pow-add 2 j (i + i), mul-le-mul_right p low) in
    let below : a * p < 18014398509481984 = omega (arith, pow_mono most, pow-add 2 (suc j) (i + i), mul-lt-mul_of_pos_right high (pow_pos (i + i))) in
    let before : i + i - 1 + 1 ≡ i + i = omega arith in
    let even : a * 2 ^ (i + i - 1) * 2 ≡ a * p = shift a (i + i - 1) 1 ∙ ap (λ (z : ℕ). a * 2 ^ z) before in
    let word : a * p < 18446744073709551616 = omega (arith, below) in
    rw (doubled, mod-eq_of_lt word)
    (record { whole = refl; few = omega arith; low = least; high = omega (arith, below, even) })

pub overflow_sub-self : goal.overflow_sub-self
overflow_sub-self c =
    let f = first c.args.self.a (omega arith) c.if-self-ge4503599627370496.false in
    omega (arith, f.zeros, f.few)

pub returns : goal.returns
returns c =
    let f = first c.args.self.a (omega arith) c.if-self-ge4503599627370496.false in
    lift c.args.self.a c.from-i.result f.j f.low f.high f.few (omega (arith, c.from-i.ensures, f.zeros))
