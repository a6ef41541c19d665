-- `root_of` of an f64 by its bits b, in each of the cases that `root` tells apart.
-- Assumes nothing.
use mathlib.Core.Path.{◌≡◌, refl, sym, ap, ◌∙◌, subst}
use mathlib.Core.Bool.{true, false}
use mathlib.Core.Logic.{◌⊎◌, inl, inr}
use Prim.Native.Nat.{ℕ, zero, suc, ◌+◌, ◌-◌, ◌*◌, ◌/◌, ◌%◌, ◌^◌, ◌≤◌, ◌<◌}
use native.Mathlib.Nat.{zero-add, mul-pos, eq-or-lt_of_le}
use native.Mathlib.Omega.{arith}
use lib.Dec.{T}
use lib.Pow.{pow_pos}
use lib.Ieee.{Float, nan, binary64, div, fits, of_bits, to_bits}
use lib.Ieee.Bits.{of_bits-to_bits}
use Rattle.root.specs.Root.{root_units, root_of}
use Rattle.ieee.specs.Patterns.{low_value, mid_value}
use Rattle.root.specs.RootUnits.{root_of_value, root_of_negative}

some : (b : ℕ) → 0 < b → b / 4503599627370496 ≡ 0 → 0 < b % 4503599627370496
some b p e = omega arith

more_than : (t : ℕ) → 0 < t + 4503599627370496
more_than t = omega arith

-- a positive one
pub root_low : (b : ℕ) → 0 < b → b / 4503599627370496 ≡ 0 → root_of (of_bits binary64 b) ≡ root_units (b % 4503599627370496 * 2 ^ 0 * 2 ^ 1074)
root_low b p e =
    ap (λ (x : ℕ). root_of (of_bits binary64 x)) (sym (zero-add b))
    ∙ root_of_value (of_bits binary64 (0 + b)) (b % 4503599627370496 * 2 ^ 0) (low_value false b e) (mul-pos (some b p e) (pow_pos 0))

pub root_mid : (b : ℕ) → (b / 4503599627370496 ≡ 0 → ⊥) → b < 9218868437227405312
    → root_of (of_bits binary64 b) ≡ root_units ((b % 4503599627370496 + 4503599627370496) * 2 ^ (b / 4503599627370496 - 1) * 2 ^ 1074)
root_mid b n h =
    ap (λ (x : ℕ). root_of (of_bits binary64 x)) (sym (zero-add b))
    ∙ root_of_value (of_bits binary64 (0 + b)) ((b % 4503599627370496 + 4503599627370496) * 2 ^ (b / 4503599627370496 - 1))
    (mid_value false b n h) (mul-pos (more_than (b % 4503599627370496)) (pow_pos (b / 4503599627370496 - 1)))

-- a negative one
at_inf : root_of (of_bits binary64 (9223372036854775808 + 9218868437227405312)) ≡ nan
unfolding root_of of_bits
at_inf = refl

negative_finite : (b : ℕ) → 0 < b → b < 9218868437227405312 → root_of (of_bits binary64 (9223372036854775808 + b)) ≡ nan
negative_finite b p h = go (b / 4503599627370496) refl
  where
    go : (e : ℕ) → b / 4503599627370496 ≡ e → root_of (of_bits binary64 (9223372036854775808 + b)) ≡ nan
    go zero e =
        root_of_negative (of_bits binary64 (9223372036854775808 + b)) (b % 4503599627370496 * 2 ^ 0) (low_value true b e) (mul-pos (some b p e) (pow_pos 0))
    go (suc k) e =
        root_of_negative (of_bits binary64 (9223372036854775808 + b)) ((b % 4503599627370496 + 4503599627370496) * 2 ^ (b / 4503599627370496 - 1))
        (mid_value true b (λ z. no k (sym z ∙ e)) h)
        (mul-pos (more_than (b % 4503599627370496)) (pow_pos (b / 4503599627370496 - 1)))
      where
        no : (k : ℕ) → 0 ≡ suc k → ⊥
        no k e = omega arith

pub root_negative : (b : ℕ) → 9223372036854775808 < b → b < 18446744073709551616 → b % 9223372036854775808 ≤ 9218868437227405312
    → root_of (of_bits binary64 b) ≡ nan
root_negative b lo hi m = go (eq-or-lt_of_le (within b lo hi m))
  where
    within : (b : ℕ) → 9223372036854775808 < b → b < 18446744073709551616 → b % 9223372036854775808 ≤ 9218868437227405312
        → b - 9223372036854775808 ≤ 9218868437227405312
    within b lo hi m = omega arith

    back : (b : ℕ) → 9223372036854775808 < b → 9223372036854775808 + (b - 9223372036854775808) ≡ b
    back b lo = omega arith

    pos : (b : ℕ) → 9223372036854775808 < b → 0 < b - 9223372036854775808
    pos b lo = omega arith

    go : (b - 9223372036854775808 ≡ 9218868437227405312) ⊎ (b - 9223372036854775808 < 9218868437227405312) → root_of (of_bits binary64 b) ≡ nan
    go (inl e) = ap (λ (x : ℕ). root_of (of_bits binary64 x)) (sym (back b lo) ∙ ap (λ (x : ℕ). 9223372036854775808 + x) e) ∙ at_inf
    go (inr l) = ap (λ (x : ℕ). root_of (of_bits binary64 x)) (sym (back b lo)) ∙ negative_finite (b - 9223372036854775808) (pos b lo) l

-- the patterns that come back as they are
pub root_same : (x : Float) (b : ℕ) → T (fits binary64 x) → to_bits binary64 x ≡ b → of_bits binary64 b ≡ root_of (of_bits binary64 b) → x ≡ root_of x
root_same x b h e r =
    let is : of_bits binary64 b ≡ x = ap (of_bits binary64) (sym e) ∙ of_bits-to_bits binary64 x h in
    subst (λ (y : Float). y ≡ root_of y) is r

pub same_zero : of_bits binary64 0 ≡ root_of (of_bits binary64 0)
unfolding root_of of_bits
same_zero = refl

pub same_minus : of_bits binary64 9223372036854775808 ≡ root_of (of_bits binary64 9223372036854775808)
unfolding root_of of_bits
same_minus = refl

pub same_inf : of_bits binary64 9218868437227405312 ≡ root_of (of_bits binary64 9218868437227405312)
unfolding root_of of_bits
same_inf = refl

pub root_nan : (x : Float) → x ≡ nan → x ≡ root_of x
unfolding root_of
root_nan x e = subst (λ (y : Float). y ≡ root_of y) (sym e) refl

pub zero_by_zero : div binary64 (of_bits binary64 0) (of_bits binary64 0) ≡ nan
unfolding div of_bits
zero_by_zero = refl
