-- `root_units n` is nearer to the root of n than any other f64. An f64 is v = m * 2 ^ j units with m below 2 ^ 53, and so is n itself, times
-- a power of two. For r the root's units: where v is less than r, the point halfway between them, (v + r) / 2, is less than the root of n,
-- and where v is greater it is greater. Squared, and times 4, that is said of whole numbers. And the root grows with n.
-- Assumes nothing.
use Rattle.std.specs.Prelude.{◌≡◌, refl, Bool, true, false, ◌⊎◌, ℕ, suc, ◌+◌, ◌-◌, ◌*◌, ◌/◌, ◌^◌, ◌≤◌, ◌<◌, T, ltb}
use Rattle.std.proofs.Common.{sym, ap, ◌∙◌, subst, inl, inr, zero-le, le_trans, le_of_eq, le_of_lt, lt_of_lt_of_le, lt_of_le_of_lt, lt_of_not-le}
use Rattle.std.proofs.Common.{not-le_of_lt, le_of_suc-le-suc, mul_assoc, mul-add, add-mul, mul-le-mul, mul-le-mul_left, mul-le-mul_right}
use Rattle.std.proofs.Common.{mul-lt-mul_of_pos_right, lt_of_mul-lt-mul_right, le-div_iff_mul-le, eq-or-lt_of_le, arith, ltb→lt, lt→ltb, lit≤}
use Rattle.std.proofs.Common.{pow-add, pow_pos, pow_mono, shl_lt}
use Rattle.std.proofs.Math.Nat.{eq_of_mul-eq-mul_right}
use Rattle.std.proofs.Math.Arith.{lt_of_le-ne}
use Rattle.std.proofs.Math.Pow.{shr_mono}
use Rattle.std.specs.Float.Ieee.{size}
use Rattle.std.specs.Float.Ieee.Digits.{size-lt, size-le}
use Rattle.ieee.specs.Numbers.{split, le_of_next, powers, fine}
use Rattle.root.specs.Root.{more, whole_root, root_drop, root_kept}
use Rattle.root.specs.WholeRoot.{whole_root_lem, square_back}
use Rattle.root.specs.RootNear.{nearest_root, kept_low, kept_high, cut_low}
use Rattle.root.specs.RootUnits.{halfway}

-- the root in units
abbrev pub root_value : ℕ → ℕ
root_value n = root_kept n * 2 ^ root_drop n

pub record Nearer (n r v : ℕ) : Type 0 where
  pub less : v < r → (v + r) * (v + r) < 4 * n
  pub greater : r < v → 4 * n < (v + r) * (v + r)

-- m * 2 ^ j that reaches 2 ^ 52 * 2 ^ k is a multiple of 2 ^ k
multiple : (m j k : ℕ) → m < 2 ^ 53 → 4503599627370496 * 2 ^ k ≤ m * 2 ^ j → (w : ℕ) × (m * 2 ^ j ≡ w * 2 ^ k)
multiple m j k h l =
    let K : k ≤ j = le_of_suc-le-suc (lt_of_not-le (λ (g : suc j ≤ k).
    not-le_of_lt (shl_lt 53 j h) (le_trans (le_trans (pow_mono (more_than j k g)) (le_of_eq (pow-add 2 52 k))) l))) in
    (m * 2 ^ (j - k), fine m k j K)
  where
    more_than : (j k : ℕ) → suc j ≤ k → 53 + j ≤ 52 + k
    more_than j k h = omega arith

less_squared : (a b : ℕ) → a < b → a * a < b * b
less_squared a b h = lt_of_le_of_lt (mul-le-mul_left a (le_of_lt h)) (mul-lt-mul_of_pos_right h (lt_of_le_of_lt zero-le h))

-- n is an f64's units times a power of two: m₀ * 2 ^ j₀, with m₀ below 2 ^ 53
module _ (n : ℕ) (big : 104 < size n) (m₀ j₀ : ℕ) (small : m₀ < 2 ^ 53) (is : m₀ * 2 ^ j₀ ≡ n) where
  -- there is no tie: n is a multiple of 4 ^ k, and four times a number is no odd square
  no_tie : 4 * n < (2 * root_kept n + 1) * (2 * root_kept n + 1) * 2 ^ (root_drop n + root_drop n)
  no_tie =
      let k = root_drop n in
      let P = 2 ^ (k + k) in
      let q = root_kept n in
      let w = multiple m₀ j₀ (k + k) small
      (le_trans (mul-le-mul_right P lit_le) (le_trans ((le-div_iff_mul-le (pow_pos (k + k))).0 (cut_low n big)) (le_of_eq (sym is)))) in
      let e : n ≡ w.0 * P = sym is ∙ w.1 in
      let f : 4 * n ≡ 4 * w.0 * P = ap (λ (x : ℕ). 4 * x) e ∙ sym (mul_assoc 4 w.0 P) in
      lt_of_le-ne (nearest_root n big).high (λ g.
      odd_square q w.0 (eq_of_mul-eq-mul_right P (pow_pos (k + k)) (4 * w.0) ((2 * q + 1) * (2 * q + 1)) (sym f ∙ g)))
    where
      lit_le : 4503599627370496 ≤ 2 ^ 104
      lit_le = lit≤ tt

      odd_square : (q w : ℕ) → 4 * w ≡ (2 * q + 1) * (2 * q + 1) → ⊥
      odd_square q w e = let h : (2 * q + 1) * (2 * q + 1) ≡ 4 * (q * q) + 4 * q + 1 = halfway q in omega arith

  -- a greater one is at least (q + 1) * 2 ^ k
  over : (m j : ℕ) → m < 2 ^ 53 → root_value n < m * 2 ^ j → 4 * n < (m * 2 ^ j + root_value n) * (m * 2 ^ j + root_value n)
  over m j h l =
      let q = root_kept n in
      let k = root_drop n in
      let P = 2 ^ k in
      let w = multiple m j k h (le_trans (mul-le-mul_right P (kept_low n big)) (le_of_lt l)) in
      let v = w.0 in
      let g : q < v = lt_of_mul-lt-mul_right P (subst (λ (x : ℕ). q * P < x) w.1 l) in
      let s : 2 * q + 1 ≤ v + q = omega arith in
      let e : m * 2 ^ j + q * P ≡ (v + q) * P = ap (λ (x : ℕ). x + q * P) w.1 ∙ sym (add-mul v q P) in
      lt_of_lt_of_le no_tie
      (le_trans (mul-le-mul_right (2 ^ (k + k)) (mul-le-mul s s))
      (le_of_eq (sym (powers (v + q) k (v + q) k) ∙ ap (λ (x : ℕ). x * x) (sym e))))

  -- where the root has no digits but the leading one, it is not above the root of n
  exact : root_kept n ≤ 4503599627370496 → root_value n * root_value n ≤ n
  exact h =
      let k = root_drop n in
      let P = 2 ^ k in
      le_trans (mul-le-mul (mul-le-mul_right P h) (mul-le-mul_right P h))
      (le_trans (le_of_eq (powers 4503599627370496 k 4503599627370496 k)) ((le-div_iff_mul-le (pow_pos (k + k))).0 (cut_low n big)))

  under : (m j : ℕ) → m < 2 ^ 53 → m * 2 ^ j < root_value n → (m * 2 ^ j + root_value n) * (m * 2 ^ j + root_value n) < 4 * n
  under m j h l = go (eq-or-lt_of_le (kept_low n big))
    where
      four : (r : ℕ) → (r + r) * (r + r) ≡ 4 * (r * r)
      four r = rw (add-mul, mul-add) (omega arith)

      at_lead : (v r : ℕ) → v < r → r * r ≤ n → (v + r) * (v + r) < 4 * n
      at_lead v r a b =
          let c : v + r < r + r = omega arith in
          let d = less_squared (v + r) (r + r) c in
          let e = four r in
          omega arith

      -- v is below the next multiple down
      lower : (v q P : ℕ) → v + P ≤ q * P → 0 < q → v + q * P ≤ (2 * q - 1) * P
      lower v q P a b =
          let d = q - 1 in
          let e : q ≡ d + 1 = omega arith in
          subst (λ (q : ℕ). v + P ≤ q * P → v + q * P ≤ (2 * q - 1) * P) (sym e) (λ f.
          let g : 2 * (d + 1) - 1 ≡ d + d + 1 = omega arith in
          subst (λ (x : ℕ). v + (d + 1) * P ≤ x * P) (sym g)
          (let p₁ = add-mul d 1 P in let p₂ = add-mul (d + d) 1 P in let p₃ = add-mul d d P in omega arith)) a

      step : (v q P : ℕ) → v < q → v * P + P ≤ q * P
      step v q P a = le_trans (le_of_eq (let p = add-mul v 1 P in omega arith)) (mul-le-mul_right P (let b : v + 1 ≤ q = omega arith in b))

      below : 4503599627370496 < root_kept n → m * 2 ^ j + 2 ^ root_drop n ≤ root_kept n * 2 ^ root_drop n
      below g = elim (split (m * 2 ^ j) (4503599627370496 * 2 ^ root_drop n)) [
        | inl a ↦ let b = step 4503599627370496 (root_kept n) (2 ^ root_drop n) g in omega arith
        | inr z ↦
            let w = multiple m j (root_drop n) h z in
            let c : w.0 < root_kept n = lt_of_mul-lt-mul_right (2 ^ root_drop n) (subst (λ (x : ℕ). x < root_kept n * 2 ^ root_drop n) w.1 l) in
            subst (λ (x : ℕ). x + 2 ^ root_drop n ≤ root_kept n * 2 ^ root_drop n) (sym w.1) (step w.0 (root_kept n) (2 ^ root_drop n) c)
      ]

      some : (q : ℕ) → 4503599627370496 < q → 0 < q
      some q h = omega arith

      go : (4503599627370496 ≡ root_kept n) ⊎ (4503599627370496 < root_kept n) → (m * 2 ^ j + root_value n) * (m * 2 ^ j + root_value n) < 4 * n
      go (inl e) = at_lead (m * 2 ^ j) (root_value n) l (exact (le_of_eq (sym e)))
      go (inr g) =
          let q = root_kept n in
          let P = 2 ^ root_drop n in
          let s = lower (m * 2 ^ j) q P (below g) (some q g) in
          lt_of_le_of_lt (mul-le-mul s s)
          (lt_of_le_of_lt (le_of_eq (powers (2 * q - 1) (root_drop n) (2 * q - 1) (root_drop n))) (nearest_root n big).low)

  pub nearer : (m j : ℕ) → m < 2 ^ 53 → Nearer n (root_value n) (m * 2 ^ j)
  nearer m j h = record { less = under m j h; greater = over m j h }

-- ---- the root grows with n
size_mono : (n m : ℕ) → n ≤ m → size n ≤ size m
size_mono n m h = size-le n (size m) (lt_of_le_of_lt h (size-lt m))

root_mono : (n m : ℕ) → n ≤ m → whole_root n ≤ whole_root m
root_mono n m h = le_of_next (square_back (whole_root n) (whole_root m + 1) (lt_of_le_of_lt (le_trans (whole_root_lem n).low h) (whole_root_lem m).high))

more_mono : (b c : Bool) (s t : ℕ) → s ≤ t → (s ≡ t → T b → T c) → more b s ≤ more c t
more_mono true true s t h k = omega arith
more_mono false true s t h k = omega arith
more_mono false false s t h k = h
more_mono true false s t h k = go (eq-or-lt_of_le h)
  where
    go : (s ≡ t) ⊎ (s < t) → s + 1 ≤ t
    go (inl e) = absurd (k e tt)
    go (inr l) = omega arith

pub root_value_mono : (n m : ℕ) → 104 < size n → n ≤ m → root_value n ≤ root_value m
root_value_mono n m big h = go (eq-or-lt_of_le drops)
  where
    big' : 104 < size m
    big' = lt_of_lt_of_le big (size_mono n m h)

    halves : (y z : ℕ) → y ≤ z → (y + 1) / 2 - 53 ≤ (z + 1) / 2 - 53
    halves y z h = omega arith

    drops : root_drop n ≤ root_drop m
    drops = halves (size n) (size m) (size_mono n m h)

    -- what is kept where k digits are dropped
    kept : ℕ → ℕ → ℕ
    kept k n = let s = whole_root (n / 2 ^ (k + k)) in more (ltb ((2 * s + 1) * (2 * s + 1) * 2 ^ (k + k)) (4 * n)) s

    at : (k : ℕ) → root_drop m ≡ k → root_drop n ≡ k → root_kept n ≤ root_kept m
    at k e f =
        subst (λ (x : ℕ). kept x n ≤ root_kept m) (sym f)
        (subst (λ (x : ℕ). kept k n ≤ kept x m) (sym e)
        (let s = whole_root (n / 2 ^ (k + k)) in
        let t = whole_root (m / 2 ^ (k + k)) in
        more_mono (ltb ((2 * s + 1) * (2 * s + 1) * 2 ^ (k + k)) (4 * n)) (ltb ((2 * t + 1) * (2 * t + 1) * 2 ^ (k + k)) (4 * m)) s t
        (root_mono (n / 2 ^ (k + k)) (m / 2 ^ (k + k)) (shr_mono (k + k) h))
        (λ e y. lt→ltb _ _
        (subst (λ (x : ℕ). (2 * x + 1) * (2 * x + 1) * 2 ^ (k + k) < 4 * m) e (lt_of_lt_of_le (ltb→lt _ _ y) (mul-le-mul_left 4 h))))))

    up : (a b : ℕ) → a < b → 53 + a ≤ 52 + b
    up a b h = omega arith

    go : (root_drop n ≡ root_drop m) ⊎ (root_drop n < root_drop m) → root_value n ≤ root_value m
    go (inl e) = le_trans (mul-le-mul_right (2 ^ root_drop n) (at (root_drop n) (sym e) refl)) (le_of_eq (ap (λ (x : ℕ). root_kept m * 2 ^ x) e))
    go (inr l) =
        le_trans (mul-le-mul_right (2 ^ root_drop n) (kept_high n big))
        (le_trans (le_of_eq (sym (pow-add 2 53 (root_drop n))))
        (le_trans (pow_mono (up (root_drop n) (root_drop m) l))
        (le_trans (le_of_eq (pow-add 2 52 (root_drop m))) (mul-le-mul_right (2 ^ root_drop m) (kept_low m big')))))
