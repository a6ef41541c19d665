-- `root_units n` is q * 2 ^ k units, of 53 digits, and no other multiple of 2 ^ k is nearer to the root of n: (2 * q - 1) / 2 and
-- (2 * q + 1) / 2 times 2 ^ k enclose it. That is said with both sides squared and times 4.
-- Assumes nothing.
use Rattle.std.specs.Prelude.{◌≡◌, refl, Bool, true, false, not, ℕ, ◌+◌, ◌-◌, ◌*◌, ◌/◌, ◌^◌, ◌≤◌, ◌<◌, T, ltb}
use Rattle.std.proofs.Common.{sym, ap, ◌∙◌, subst, le_trans, le_of_eq, lt_of_lt_of_le, lt_of_le_of_lt, mul_assoc, mul-add, add-mul, mul-le-mul}
use Rattle.std.proofs.Common.{mul-le-mul_right, mul-lt-mul_of_pos_right, le-div_iff_mul-le, div-lt_iff_lt-mul, arith, ltb→lt, nltb→le, pow-add}
use Rattle.std.proofs.Common.{pow_pos, pow_mono}
use Rattle.std.specs.Float.{binary64}
use Rattle.std.specs.Float.Ieee.{size, units}
use Rattle.std.specs.Float.Ieee.Digits.{size-lt, size_reaches}
use Rattle.ieee.specs.Numbers.{four_squares, le_of_next}
use Rattle.root.specs.Root.{more, whole_root, root_drop, root_kept, root_units}
use Rattle.root.specs.WholeRoot.{IsRoot, whole_root_lem, square_back}

pub root_units_is : (n : ℕ) → root_units n ≡ units binary64 false (root_kept n) (root_drop n)
unfolding root_units
root_units_is n = refl

pub record NearestRoot (n q k : ℕ) : Type 0 where
  pub low : (2 * q - 1) * (2 * q - 1) * 2 ^ (k + k) < 4 * n
  pub high : 4 * n ≤ (2 * q + 1) * (2 * q + 1) * 2 ^ (k + k)

-- 0 < s, and s is the root of n cut to multiples of 2 ^ k
choose : (n s P : ℕ) (b : Bool) → (T b → (2 * s + 1) * (2 * s + 1) * P < 4 * n) → (T (not b) → 4 * n ≤ (2 * s + 1) * (2 * s + 1) * P)
    → 0 < s → 0 < P → s * s * P ≤ n → n < (s + 1) * (s + 1) * P
    → ((2 * more b s - 1) * (2 * more b s - 1) * P < 4 * n) × (4 * n ≤ (2 * more b s + 1) * (2 * more b s + 1) * P)
choose n s P true y z S p lo hi =
    let a : 2 * (s + 1) - 1 ≡ 2 * s + 1 = omega arith in
    let u : 4 * n ≤ 4 * ((s + 1) * (s + 1) * P) = omega arith in
    let v : 2 * (s + 1) * (2 * (s + 1)) * P ≡ 4 * ((s + 1) * (s + 1) * P) =
    ap (λ (x : ℕ). x * P) (four_squares (s + 1)) ∙ mul_assoc 4 ((s + 1) * (s + 1)) P in
    let w : 2 * (s + 1) * (2 * (s + 1)) * P ≤ (2 * (s + 1) + 1) * (2 * (s + 1) + 1) * P =
    mul-le-mul_right P (mul-le-mul (up (2 * (s + 1))) (up (2 * (s + 1)))) in
    (subst (λ (x : ℕ). x * x * P < 4 * n) (sym a) (y tt), omega arith)
  where
    up : (x : ℕ) → x ≤ x + 1
    up x = omega arith
choose n s P false y z S p lo hi =
    let v : 2 * s * (2 * s) * P ≡ 4 * (s * s * P) = ap (λ (x : ℕ). x * P) (four_squares s) ∙ mul_assoc 4 (s * s) P in
    let w : (2 * s - 1) * (2 * s - 1) * P < 2 * s * (2 * s) * P = mul-lt-mul_of_pos_right (smaller (2 * s) (twice s S)) p in
    (omega arith, z tt)
  where
    twice : (s : ℕ) → 0 < s → 0 < 2 * s
    twice s h = omega arith

    smaller : (t : ℕ) → 0 < t → (t - 1) * (t - 1) < t * t
    smaller t h =
        let d = t - 1 in
        let e : t ≡ d + 1 = omega arith in
        subst (λ (x : ℕ). d * d < x * x) (sym e) (rw (add-mul, mul-add) (omega arith))

enclosed : (n k s : ℕ) → IsRoot (n / 2 ^ (k + k)) s → (s * s * 2 ^ (k + k) ≤ n) × (n < (s + 1) * (s + 1) * 2 ^ (k + k))
enclosed n k s h = ((le-div_iff_mul-le (pow_pos (k + k))).0 h.low, (div-lt_iff_lt-mul (pow_pos (k + k))).0 h.high)

-- n has at least 105 digits: so the root has at least 53, and s has exactly 53
module _ (n : ℕ) (big : 104 < size n) where
  even : (z : ℕ) → 104 < z → 104 + ((z + 1) / 2 - 53 + ((z + 1) / 2 - 53)) < z
  even z h = omega arith

  odd' : (z : ℕ) → 104 < z → z ≤ 106 + ((z + 1) / 2 - 53 + ((z + 1) / 2 - 53))
  odd' z h = omega arith

  pub cut_low : 2 ^ 104 ≤ n / 2 ^ (root_drop n + root_drop n)
  cut_low =
      let k = root_drop n in
      (le-div_iff_mul-le (pow_pos (k + k))).1 (le_trans (le_of_eq (sym (pow-add 2 104 (k + k)))) (size_reaches n (104 + (k + k)) (even (size n) big)))

  pub cut_high : n / 2 ^ (root_drop n + root_drop n) < 2 ^ 106
  cut_high =
      let k = root_drop n in
      (div-lt_iff_lt-mul (pow_pos (k + k))).1 (lt_of_lt_of_le (size-lt n) (le_trans (pow_mono (odd' (size n) big)) (le_of_eq (pow-add 2 106 (k + k)))))

  s_low : 4503599627370496 ≤ whole_root (n / 2 ^ (root_drop n + root_drop n))
  s_low =
      let c = n / 2 ^ (root_drop n + root_drop n) in
      le_of_next (square_back 4503599627370496 (whole_root c + 1) (lt_of_le_of_lt cut_low (whole_root_lem c).high))

  s_high : whole_root (n / 2 ^ (root_drop n + root_drop n)) < 9007199254740992
  s_high =
      let c = n / 2 ^ (root_drop n + root_drop n) in
      square_back (whole_root c) 9007199254740992 (lt_of_le_of_lt (whole_root_lem c).low cut_high)

  abbrev half : ℕ
  half = 2 * whole_root (n / 2 ^ (root_drop n + root_drop n)) + 1

  pub kept_low : 4503599627370496 ≤ root_kept n
  kept_low = at (ltb (half * half * 2 ^ (root_drop n + root_drop n)) (4 * n)) s_low
    where
      at : {s : ℕ} (b : Bool) → 4503599627370496 ≤ s → 4503599627370496 ≤ more b s
      at true h = omega arith
      at false h = h

  pub kept_high : root_kept n ≤ 9007199254740992
  kept_high = at (ltb (half * half * 2 ^ (root_drop n + root_drop n)) (4 * n)) s_high
    where
      at : {s : ℕ} (b : Bool) → s < 9007199254740992 → more b s ≤ 9007199254740992
      at true h = omega arith
      at false h = omega arith

  pub nearest_root : NearestRoot n (root_kept n) (root_drop n)
  nearest_root =
      let k = root_drop n in
      let s = whole_root (n / 2 ^ (k + k)) in
      let e = enclosed n k s (whole_root_lem (n / 2 ^ (k + k))) in
      let b = ltb ((2 * s + 1) * (2 * s + 1) * 2 ^ (k + k)) (4 * n) in
      let r = choose n s (2 ^ (k + k)) b (ltb→lt _ _) (nltb→le _ _) (some s s_low) (pow_pos (k + k)) e.0 e.1 in
      record { low = r.0; high = r.1 }
    where
      some : (s : ℕ) → 4503599627370496 ≤ s → 0 < s
      some s h = omega arith
