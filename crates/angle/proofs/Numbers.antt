-- Division of whole numbers: long division by two digits, and a quotient moved down.
-- Assumes nothing.
use mathlib.Core.Path.{◌≡◌, sym, ap, ◌∙◌}
use Prim.Native.Nat.{ℕ, ◌+◌, ◌-◌, ◌*◌, ◌/◌, ◌%◌, ◌^◌, ◌≤◌, ◌<◌}
use native.Mathlib.Nat.{div-add-mod', mul-add-div_right, mul_right_comm, mul_assoc, add-mul, mod-lt, div-lt_iff_lt-mul, div-le_of_le-mul}
use native.Mathlib.Nat.{div-div-eq-div-mul, mul-div-mul_right, div-eq_of_lt, lt_of_lt_of_le, mul-le-mul_right}
use native.Mathlib.Omega.{arith}
use lib.Pow.{pow-add, pow_pos, pow_mono}

pub long : (m n : ℕ) → 0 < n → m * 2048 / n * 2048 + m * 2048 % n * 2048 / n ≡ m * 4194304 / n
long m n N =
    let x = m * 2048 in
    let q = x / n in
    let r = x % n in
    sym (mul-add-div_right N (q * 2048) (r * 2048))
    ∙ ap (λ (z : ℕ). z / n)
    (ap (λ (z : ℕ). z + r * 2048) (mul_right_comm q 2048 n)
    ∙ sym (add-mul (q * n) r 2048) ∙ ap (λ (z : ℕ). z * 2048) (div-add-mod' x n) ∙ mul_assoc m 2048 2048)

-- both digits and what is left between them are small
pub record Small (m n : ℕ) : Type 0 where
  pub first : m * 2048 / n < 4096
  pub rest : m * 2048 % n < n
  pub second : m * 2048 % n * 2048 / n < 2048

pub small : (m n : ℕ) → m < 2 * n → Small m n
small m n h =
    let N : 0 < n = omega arith in
    let r = mod-lt (m * 2048) N in
    record { first = (div-lt_iff_lt-mul N).1 (omega arith); rest = r; second = (div-lt_iff_lt-mul N).1 (omega arith) }

-- divided by the digits alone, and then moved down by the difference of the exponents
pub moved : (m n k l : ℕ) → k ≤ l → m * 4194304 / n / 2 ^ (l - k) ≡ m * 2 ^ k * 4194304 / (n * 2 ^ l)
moved m n k l h =
    div-div-eq-div-mul (m * 4194304) n (2 ^ (l - k))
    ∙ sym (mul-div-mul_right (m * 4194304) (n * 2 ^ (l - k)) (pow_pos k))
    ∙ ap (λ (z : ℕ). z / (n * 2 ^ (l - k) * 2 ^ k)) (mul_right_comm m 4194304 (2 ^ k))
    ∙ ap (λ (z : ℕ). m * 2 ^ k * 4194304 / z)
    (mul_assoc n (2 ^ (l - k)) (2 ^ k) ∙ ap (λ (z : ℕ). n * z) (sym (pow-add 2 (l - k) k) ∙ ap (λ (z : ℕ). 2 ^ z) (back l k h)))
  where
    back : (l k : ℕ) → k ≤ l → l - k + k ≡ l
    back l k h = omega arith

pub moved_out : (w d : ℕ) → w < 8388608 → 22 < d → w / 2 ^ d ≡ 0
moved_out w d h D = div-eq_of_lt (lt_of_lt_of_le h (pow_mono {i = 23} D))

pub slope_most : (a b : ℕ) → b ≤ a → b * 4194304 / a ≤ 4194304
slope_most a b h = div-le_of_le-mul a (mul-le-mul_right 4194304 h)
