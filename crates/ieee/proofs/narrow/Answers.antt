-- `ieee::narrow` meets its contract: a NaN aside, `narrow_bits` does the bits without the sign, and the sign is put back.
-- Assumes nothing.
use mathlib.Core.Path.{◌≡◌, refl, sym, subst, ap, ◌∙◌}
use mathlib.Core.Bool.{true, false, not}
use Prim.Native.Nat.{ℕ, ◌+◌, ◌-◌, ◌%◌, ◌≤◌, ◌<◌}
use native.Mathlib.Nat.{zero-add}
use native.Mathlib.Omega.{arith}
use lib.Dec.{T}
use lib.Ieee.{Float, is_nan, binary32, binary64, nan, fits, of_bits, to_bits}
use lib.Ieee.Bits.{of_bits-to_bits, to_bits-lt}
use Rattle.ieee.specs.Narrow.{narrow_of}
use Rattle.ieee.specs.Nans.{is_the_nan, is_number}
use Rattle.ieee.specs.Patterns.{no_nan_bits, bits_in}
use Rattle.ieee.proofs.narrow.Goals as goal

-- what owning an f64 tells: the format holds it
held : (x : Float) → fits binary64 x ≡ true → T (fits binary64 x)
held x e = subst T (sym e) tt

of_nan : (x : Float) → x ≡ nan → of_bits binary32 2143289344 ≡ narrow_of x
unfolding of_bits narrow_of
of_nan x e = subst (λ (y : Float). nan ≡ narrow_of y) (sym e) refl

-- the bits without the sign end at the infinity's
within : (x : Float) → T (fits binary64 x) → T (not (is_nan x))
    → (to_bits binary64 x % 9223372036854775808 ≤ 9218868437227405312) × (to_bits binary64 x < 18446744073709551616)
within x held h = (bits_in binary64 x held h, to_bits-lt binary64 x held)

top_bit : (b : ℕ) → 9223372036854775808 ≤ b → 9223372036854775808 + (b - 9223372036854775808) ≡ b
top_bit b h = omega arith

pub returns-then-is_nan : goal.returns-then-is_nan
returns-then-is_nan c = of_nan c.args.x (is_the_nan c.args.x (sym c.is_nan.ensures.value ∙ c.if-is_nan.true))

pub narrow_bits-requires : goal.narrow_bits-requires
narrow_bits-requires c =
    let w = within c.args.x (held c.args.x c.well_formed.0.1) (is_number _ (sym c.is_nan.ensures.value ∙ c.if-is_nan.false)) in
    omega arith

pub float_from_bits-result : goal.float_from_bits-result
float_from_bits-result c = no_nan_bits binary32 c.narrow_bits.result (omega (arith, c.narrow_bits.ensures.low))

pub returns-then-b-lt9223372036854775808 : goal.returns-then-b-lt9223372036854775808
returns-then-b-lt9223372036854775808 c =
    let x = c.args.x in
    ap (of_bits binary32) (sym (zero-add c.narrow_bits.result))
    ∙ c.narrow_bits.ensures.is false
    ∙ ap (λ (b : ℕ). narrow_of (of_bits binary64 b)) (zero-add (to_bits binary64 x))
    ∙ ap narrow_of (of_bits-to_bits binary64 x (held x c.well_formed.0.1))

pub narrow_bits-requires-2 : goal.narrow_bits-requires-2
narrow_bits-requires-2 c =
    let w = within c.args.x (held c.args.x c.well_formed.0.1) (is_number _ (sym c.is_nan.ensures.value ∙ c.if-is_nan.false)) in
    omega arith

pub float_from_bits-result-2 : goal.float_from_bits-result-2
float_from_bits-result-2 c = no_nan_bits binary32 (2147483648 + c.narrow_bits-2.result) (omega (arith, c.narrow_bits-2.ensures.low))

pub returns : goal.returns
returns c =
    let x = c.args.x in
    c.narrow_bits-2.ensures.is true
    ∙ ap (λ (b : ℕ). narrow_of (of_bits binary64 b)) (top_bit (to_bits binary64 x) c.if-b-lt9223372036854775808.false)
    ∙ ap narrow_of (of_bits-to_bits binary64 x (held x c.well_formed.0.1))
