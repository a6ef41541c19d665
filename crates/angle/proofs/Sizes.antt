-- Sizes by their bits: which value the bits stand for, that larger bits are a larger size, and so the angle of two patterns.
-- Assumes nothing.
use mathlib.Core.Bool.{Bool, true, false, not, cond, ◌&&◌}
use mathlib.Core.Logic.{◌⊎◌, inl, inr}
use mathlib.Core.Path.{◌≡◌, refl, sym, ap, ◌∙◌, subst}
use Prim.Native.Nat.{ℕ, ◌+◌, ◌-◌, ◌*◌, ◌/◌, ◌%◌, ◌^◌, ◌≤◌, ◌<◌}
use native.Mathlib.Nat.{mul-one, mul_assoc, lt_of_lt_of_le, le_trans, le_of_eq, mul-le-mul, mul-lt-mul_of_pos_right, pow-succ', eq-or-lt_of_le, le_of_lt}
use native.Mathlib.Omega.{arith}
use borrow.Author.Tests.{le-leb, lt-leb, eq-eqb, ne_eqb}
use lib.Dec.{T, leb, eqb}
use lib.Pow.{pow_pos, pow_mono}
use lib.Ieee.{Float, nan, inf, binary64, of_bits, of_fields}
use lib.Ieee.Exact.{HasValue}
use Rattle.ieee.specs.Patterns.{low_value, mid_value}
use Rattle.ieee.specs.Numbers.{split}
use Rattle.angle.specs.Angle.{slope, around, circle_of, finite}
use Rattle.angle.specs.Inner.{digits, exponent, size_of}
use Rattle.angle.specs.Circle.{around_none, around_scale}
use Rattle.angle.specs.Facts.{not_finite_circle, circle_of_values}
use Rattle.angle.proofs.Numbers.{moved}

-- ---- the digits
pub digits_low : (b : ℕ) → b < 4503599627370496 → digits b ≡ b % 4503599627370496
unfolding digits
digits_low b h = rw (eq-eqb (b / 4503599627370496) 0 (omega arith))

pub digits_mid : (b : ℕ) → 4503599627370496 ≤ b → digits b ≡ b % 4503599627370496 + 4503599627370496
unfolding digits
digits_mid b h = rw (ne_eqb (b / 4503599627370496) 0 (λ (e : b / 4503599627370496 ≡ 0). omega arith))

pub digits_most : (b : ℕ) → digits b < 9007199254740992
digits_most b = go (split b 4503599627370496)
  where
    go : (b < 4503599627370496) ⊎ (4503599627370496 ≤ b) → digits b < 9007199254740992
    go (inl l) = rw (digits_low b l) (omega arith)
    go (inr l) = rw (digits_mid b l) (omega arith)

pub digits_twice : (a b : ℕ) → b ≤ a → 0 < a → digits b < 2 * digits a
digits_twice a b h p = go (split a 4503599627370496)
  where
    go : (a < 4503599627370496) ⊎ (4503599627370496 ≤ a) → digits b < 2 * digits a
    go (inl l) = rw (digits_low a l, digits_low b (omega arith)) (omega arith)
    go (inr l) = rw (digits_mid a l) (omega (arith, digits_most b))

-- ---- the order of sizes is that of the bits
size_low : (b : ℕ) → b < 4503599627370496 → size_of b ≡ b
unfolding size_of
size_low b h = ap (λ (k : ℕ). digits b * 2 ^ k) (none b h) ∙ mul-one (digits b) ∙ digits_low b h ∙ omega arith
  where
    none : (b : ℕ) → b < 4503599627370496 → b / 4503599627370496 - 1 ≡ 0
    none b h = omega arith

-- one more in the exponent is more than any digits
pub size_less : (a b : ℕ) → a < b → size_of a < size_of b
unfolding size_of
size_less a b h = go (split b 4503599627370496) (split (exponent a) (exponent b))
  where
    same : (a b : ℕ) → a < b → b / 4503599627370496 - 1 ≤ a / 4503599627370496 - 1 → a / 4503599627370496 - 1 ≡ b / 4503599627370496 - 1
    same a b h k = omega arith

    by : (a < 4503599627370496) ⊎ (4503599627370496 ≤ a) → 4503599627370496 ≤ b → exponent b ≤ exponent a → digits a < digits b
    by (inl s) l k = rw (digits_low a s, digits_mid b l) (omega arith)
    by (inr s) l k = rw (digits_mid a s, digits_mid b l) (omega arith)

    go : (b < 4503599627370496) ⊎ (4503599627370496 ≤ b) → (exponent a < exponent b) ⊎ (exponent b ≤ exponent a) → size_of a < size_of b
    go (inl l) k = rw (size_low b l, size_low a (omega arith)) h
    go (inr l) (inl k) =
        lt_of_lt_of_le (mul-lt-mul_of_pos_right (digits_most a) (pow_pos (exponent a)))
        (le_trans
        (le_of_eq (mul_assoc 4503599627370496 2 (2 ^ exponent a) ∙ ap (λ (z : ℕ). 4503599627370496 * z) (sym (pow-succ' 2 (exponent a)))))
        (mul-le-mul (rw (digits_mid b l) (omega arith)) (pow_mono k)))
    go (inr l) (inr k) =
        subst (λ (z : ℕ). digits a * 2 ^ z < digits b * 2 ^ exponent b) (sym (same a b h k))
        (mul-lt-mul_of_pos_right (by (split a 4503599627370496) l k) (pow_pos (exponent b)))

pub size_le : (a b : ℕ) → a ≤ b → size_of a ≤ size_of b
size_le a b h = go (eq-or-lt_of_le h)
  where
    go : (a ≡ b) ⊎ (a < b) → size_of a ≤ size_of b
    go (inl e) = le_of_eq (ap size_of e)
    go (inr l) = le_of_lt (size_less a b l)

pub size_some : (a b : ℕ) → 0 < a + b → 0 < size_of a + size_of b
size_some a b h = go (split 0 a)
  where
    some : (b : ℕ) → 0 < b → 0 < size_of b
    some b h = omega (arith, size_less 0 b h)

    go : (0 < a) ⊎ (a ≤ 0) → 0 < size_of a + size_of b
    go (inl l) = omega (arith, some a l)
    go (inr l) = let p : 0 < b = omega arith in omega (arith, some b p)

-- ---- the slope of two sizes, from their digits and exponents
pub slope_is : (a b m n k l w : ℕ) → b ≤ a → m ≡ digits b → n ≡ digits a → k ≡ exponent b → l ≡ exponent a → w ≡ m * 4194304 / n
    → w / 2 ^ (l - k) ≡ slope (size_of a) (size_of b)
unfolding size_of
slope_is a b m n k l w h em en ek el ew =
    (λ i. ew i / 2 ^ (l - k))
    ∙ (λ i. em i * 4194304 / en i / 2 ^ (el i - ek i))
    ∙ moved (digits b) (digits a) (exponent b) (exponent a) (lower b a h)
  where
    lower : (a b : ℕ) → a ≤ b → a / 4503599627370496 - 1 ≤ b / 4503599627370496 - 1
    lower a b h = omega arith

-- ---- the value of a pattern
abbrev Valued : Bool → ℕ → ℕ → Type 0
Valued s b x = HasValue (of_bits binary64 x) s (size_of b) (2 ^ 1074)

size_value : (s : Bool) (b : ℕ) → b < 9218868437227405312 → Valued s b (cond s 9223372036854775808 0 + b)
unfolding size_of
size_value s b h = go (split b 4503599627370496)
  where
    of : (m : ℕ) → digits b ≡ m → HasValue (of_bits binary64 (cond s 9223372036854775808 0 + b)) s (m * 2 ^ exponent b) (2 ^ 1074)
        → Valued s b (cond s 9223372036854775808 0 + b)
    of m e v = subst (λ (z : ℕ). HasValue (of_bits binary64 (cond s 9223372036854775808 0 + b)) s (z * 2 ^ exponent b) (2 ^ 1074)) (sym e) v

    none : (b : ℕ) → b < 4503599627370496 → 0 ≡ b / 4503599627370496 - 1
    none b h = omega arith

    go : (b < 4503599627370496) ⊎ (4503599627370496 ≤ b) → Valued s b (cond s 9223372036854775808 0 + b)
    go (inl l) =
        of (b % 4503599627370496) (digits_low b l)
        (subst (λ (k : ℕ). HasValue (of_bits binary64 (cond s 9223372036854775808 0 + b)) s (b % 4503599627370496 * 2 ^ k) (2 ^ 1074)) (none b l)
        (low_value s b (omega arith)))
    go (inr l) = of (b % 4503599627370496 + 4503599627370496) (digits_mid b l) (mid_value s b (λ (e : b / 4503599627370496 ≡ 0). omega arith) h)

bits_value : (x : ℕ) → x < 18446744073709551616 → x % 9223372036854775808 < 9218868437227405312
    → Valued (leb 9223372036854775808 x) (x % 9223372036854775808) x
bits_value x X h = go (split x 9223372036854775808)
  where
    plain : (x : ℕ) → x < 9223372036854775808 → 0 + x % 9223372036854775808 ≡ x
    plain x l = omega arith

    minus : (x : ℕ) → 9223372036854775808 ≤ x → x < 18446744073709551616 → 9223372036854775808 + x % 9223372036854775808 ≡ x
    minus x l X = omega arith

    go : (x < 9223372036854775808) ⊎ (9223372036854775808 ≤ x) → Valued (leb 9223372036854775808 x) (x % 9223372036854775808) x
    go (inl l) =
        rw (lt-leb 9223372036854775808 x l)
        (subst (λ (z : ℕ). Valued false (x % 9223372036854775808) z) (plain x l) (size_value false (x % 9223372036854775808) h))
    go (inr l) =
        rw (le-leb 9223372036854775808 x l)
        (subst (λ (z : ℕ). Valued true (x % 9223372036854775808) z) (minus x l X) (size_value true (x % 9223372036854775808) h))

-- ---- the angle of two patterns
pub not_number : (x : ℕ) → 9218868437227405312 ≤ x % 9223372036854775808 → finite (of_bits binary64 x) ≡ false
unfolding of_bits of_fields
not_number x h =
    ap (λ (e : ℕ). finite (of_fields binary64 (leb 9223372036854775808 x) e (x % 4503599627370496))) (top x h)
    ∙ by (eqb (x % 4503599627370496) 0)
  where
    top : (x : ℕ) → 9218868437227405312 ≤ x % 9223372036854775808 → x % 9223372036854775808 / 4503599627370496 ≡ 2047
    top x h = omega arith

    by : (z : Bool) → finite (cond z (inf (leb 9223372036854775808 x)) nan) ≡ false
    by true = refl
    by false = refl

pub re_out : (re im : Float) → finite re ≡ false → 0 ≡ circle_of re im
re_out re im h = sym (not_finite_circle re im (rw h tt))

pub im_out : (re im : Float) → finite im ≡ false → 0 ≡ circle_of re im
im_out re im h = sym (not_finite_circle re im (rw h (by (finite re))))
  where
    by : (b : Bool) → T (not (b && false))
    by true = tt
    by false = tt

pub bits_circle : (x y : ℕ) → x < 18446744073709551616 → y < 18446744073709551616
    → x % 9223372036854775808 < 9218868437227405312 → y % 9223372036854775808 < 9218868437227405312
    → circle_of (of_bits binary64 x) (of_bits binary64 y)
    ≡ around (leb 9223372036854775808 x) (size_of (x % 9223372036854775808)) (leb 9223372036854775808 y) (size_of (y % 9223372036854775808))
bits_circle x y X Y h k =
    let l = leb 9223372036854775808 x in
    let r = leb 9223372036854775808 y in
    let a = size_of (x % 9223372036854775808) in
    let b = size_of (y % 9223372036854775808) in
    let u = pow_pos 1074 in
    circle_of_values (of_bits binary64 x) (of_bits binary64 y) l r a (2 ^ 1074) b (2 ^ 1074) u u (bits_value x X h) (bits_value y Y k)
    ∙ around_scale l a r b (2 ^ 1074) u

pub zero_around : (s t : Bool) → around s (size_of 0) t (size_of 0) ≡ 0
unfolding size_of digits
zero_around s t = around_none s t
