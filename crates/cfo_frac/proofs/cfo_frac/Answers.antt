-- `cfo_frac::cfo_frac` meets its contract: the angle is small, so that nothing is lost where it is negated.
-- Assumes nothing.
use Prim.Native.Nat.{ℕ, zero, suc, ◌<◌}
use mathlib.Core.Path.{◌≡◌, refl, sym, ap, ◌∙◌, subst}
use native.Mathlib.Decide.{dec_lt}
use native.Mathlib.Omega.{arith}
use borrow.Author.Tests.{lt-ltb, le-ltb}
use lib.IntN.{ℤ, pos, negsuc, neg_ℤ, sub_ℕ, ◌-ℤ◌, +ℤ_idl}
use lib.Signed.{mag}
use lib.Ieee.{binary64, of_bits, of_int, div}
use mir.Syntax.{w32}
use mir.Val.{SFits, to_z, of_z}
use mir.ValLaws.{to_z-of_z}
use Rattle.complex.specs.Complex.{Pair, of64}
use Rattle.angle.specs.Angle.{angle_of, AngleRange}
use Rattle.angle.specs.Facts.{angle_range, angle_back}
use Rattle.cfo_frac.specs.CfoFrac.{cfo_frac}
use Rattle.cfo_frac.proofs.cfo_frac.Goals as goal

-- a difference of two small numbers, in 32 bits
sub_small : (a b : ℕ) → a < 65537 → b < 65537 → SFits w32 (sub_ℕ a b)
sub_small a b A B = by (dec_lt a b)
  where
    by : Dec (a < b) → SFits w32 (sub_ℕ a b)
    by (yes l) = rw (lt-ltb a b l) (record { sfits = omega arith })
    by (no l) = rw (le-ltb a b (omega arith)) (record { sfits = omega arith })

difference_small : (x y : ℤ) → mag x < 65536 → mag y < 65536 → SFits w32 (x -ℤ y)
difference_small (pos a) (pos zero) A B = record { sfits = omega arith }
difference_small (pos a) (pos (suc b)) A B = sub_small a (suc b) (omega arith) (omega arith)
difference_small (pos a) (negsuc b) A B = record { sfits = omega arith }
difference_small (negsuc a) (pos zero) A B = sub_small 0 (suc a) (omega arith) (omega arith)
difference_small (negsuc a) (pos (suc b)) A B = record { sfits = omega arith }
difference_small (negsuc a) (negsuc b) A B = sub_small (suc b) (suc a) (omega arith) (omega arith)

module _ (p : Pair) (r : ℤ) (e : r ≡ angle_of p) where
  small : mag (to_z w32 (of_z w32 r)) < 65536
  small = subst (λ (z : ℤ). mag z < 65536) (sym (angle_back p r e)) (by (angle_of p) (angle_range p))
    where
      by : (z : ℤ) → AngleRange z → mag z < 65536
      by (pos n) h = omega arith
      by (negsuc n) h = omega arith

  negated_is : to_z w32 (of_z w32 (pos 0 -ℤ to_z w32 (of_z w32 r))) ≡ neg_ℤ (angle_of p)
  negated_is =
      to_z-of_z w32 (pos 0 -ℤ to_z w32 (of_z w32 r)) (difference_small (pos 0) (to_z w32 (of_z w32 r)) (omega arith) small)
      ∙ ap (λ (z : ℤ). pos 0 -ℤ z) (angle_back p r e)
      ∙ +ℤ_idl (neg_ℤ (angle_of p))

-- the divisor
turn_is : of_bits binary64 0x40f0_0000_0000_0000 ≡ of_int binary64 (pos 65536)
unfolding of_bits of_int
turn_is = refl

pub overflow_sub-result : goal.overflow_sub-result
overflow_sub-result c =
    let few : mag (to_z w32 (of_z w32 c.angle-a.result)) < 65536 = small (of64 c.args.correlation) c.angle-a.result c.angle-a.ensures in
    let none : mag (to_z w32 0) < 65536 = omega arith in
    search (difference_small, few, none)

pub returns : goal.returns
unfolding cfo_frac
returns c =
    let a = c.angle-a in
    let n = negated_is (of64 c.args.correlation) a.result a.ensures in
    λ i. div binary64 (of_int binary64 (n i)) (turn_is i)
