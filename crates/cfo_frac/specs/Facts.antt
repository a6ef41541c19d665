-- What document 02 asks of the fractional offset: it is minus the angle, over 65536, exactly; angle 0 gives +0.0; and a common power of two of both
-- parts, where that is exact, leaves it as it is.
-- Assumes nothing.
use Rattle.std.specs.Prelude.{Bool, true, false, ◌≡◌, ℕ, zero, suc, ◌*◌, ◌^◌, ◌≤◌, ◌<◌, ℤ, pos, negsuc, nat_abs, Float}
use Rattle.std.proofs.Common.{sym, ap, ◌∙◌, subst, mul-one, mul_assoc, lt_of_le_of_lt, mul-le-mul_right, arith, lit<, lit≤}
use Rattle.std.specs.Float.{binary64}
use Rattle.std.specs.Float.Ieee.{of_int, of_bits, div, round}
use Rattle.std.specs.Float.Ieee.Exact.{HasValue, round_exact}
use Rattle.std.specs.Float.Ieee.Back.{round_whole}
use Rattle.ieee.specs.Constants.{plus_zero}
use Rattle.ieee.specs.Signs.{unlike_false}
use Rattle.ieee.specs.Times.{Times, div_value}
use Rattle.complex.specs.Complex.{Pair}
use Rattle.angle.specs.Angle.{angle_of, AngleRange}
use Rattle.angle.specs.Facts.{angle_range, times_angle}
use Rattle.cfo_frac.specs.CfoFrac.{offset_of, cfo_frac}

-- ---- its value: below zero where the angle is above
abbrev pub above_zero : ℤ → Bool
above_zero (pos zero) = false
above_zero (pos (suc n)) = true
above_zero (negsuc n) = false

-- a whole number of few digits, over 65536
quotient : (s : Bool) (n : ℕ) (x : Float) → n ≤ 32768 → HasValue x s n 1 → HasValue (div binary64 x (of_int binary64 (pos 65536))) s n 65536
unfolding of_int
quotient s n x h v =
    let turn = round binary64 false 65536 1 in
    let is : div binary64 x turn ≡ round binary64 s n 65536 =
    div_value binary64 x turn s false n 1 65536 1 (lit< tt) (lit< tt) (lit< tt) v (round_whole binary64 false 65536 (lit≤ tt))
    ∙ (λ i. round binary64 (unlike_false s i) (mul-one n i) 65536) in
    let few : n * 2 ^ 1058 < 2 ^ 2098 = lt_of_le_of_lt (mul-le-mul_right (2 ^ 1058) h) (lit< tt) in
    subst (λ (z : Float). HasValue z s n 65536) (sym is)
    (round_exact binary64 s n 65536 n 1058 (lit< tt) (omega arith) few (sym (mul_assoc n (2 ^ 1058) 65536)))

value_of : (z : ℤ) → AngleRange z → HasValue (offset_of z) (above_zero z) (nat_abs z) 65536
unfolding of_int
value_of (pos zero) h = quotient false 0 (of_int binary64 (pos 0)) h (round_whole binary64 false 0 (omega arith))
value_of (pos (suc n)) h = quotient true (suc n) (of_int binary64 (negsuc n)) h (round_whole binary64 true (suc n) (omega arith))
value_of (negsuc n) h = quotient false (suc n) (of_int binary64 (pos (suc n))) (omega arith) (round_whole binary64 false (suc n) (omega arith))

pub cfo_value : (p : Pair) → HasValue (cfo_frac p) (above_zero (angle_of p)) (nat_abs (angle_of p)) 65536
unfolding cfo_frac
cfo_value p = value_of (angle_of p) (angle_range p)

-- ---- angle 0 gives +0.0
pub angle_zero : (p : Pair) → angle_of p ≡ pos 0 → cfo_frac p ≡ plus_zero binary64
unfolding cfo_frac div of_int of_bits
angle_zero p e = ap offset_of e

-- ---- both parts times a power of two, where that is exact
pub times_cfo : (k : ℕ) (p q : Pair) → Times k p.re q.re → Times k p.im q.im → cfo_frac q ≡ cfo_frac p
unfolding cfo_frac
times_cfo k p q g h = ap offset_of (times_angle k p q g h)
