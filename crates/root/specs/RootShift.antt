-- The root's digits do not move under a factor 4 ^ t: 4 ^ t times a number has a root of the same 53 digits, t places further up. First
-- for whole numbers, then for an f64 of a units, which are 2 ^ -1074 each.
-- Assumes nothing.
use Rattle.std.specs.Prelude.{◌≡◌, refl, Bool, true, false, ℕ, zero, suc, ◌+◌, ◌-◌, ◌*◌, ◌/◌, ◌^◌, ◌≤◌, ◌<◌, T, ltb, Float}
use Rattle.std.proofs.Common.{sym, ap, ◌∙◌, subst, inl, inr, le_trans, le_of_eq, le_of_lt, lt_of_lt_of_le, lt_of_le_of_lt, zero-mul, eq-zero-or-pos}
use Rattle.std.proofs.Common.{zero-lt-suc, mul_comm, mul_assoc, mul_right_comm, mul-pos, mul-le-mul, mul-le-mul_right, arith, lit<, lit≤, pow-add}
use Rattle.std.proofs.Common.{pow_pos, pow_mono, shl_lt}
use Rattle.std.specs.Float.{nan, inf, fin, binary64}
use Rattle.std.specs.Float.Ieee.{up, down, size, fits}
use Rattle.std.specs.Float.Ieee.Digits.{size-lt, size-le, size_reaches}
use Rattle.std.specs.Float.Ieee.Fits.{up_pos, cond-fits, nan-fits, inf-fits}
use Rattle.std.specs.Float.Ieee.Nearest.{div_same}
use Rattle.std.specs.Float.Ieee.Exact.{HasValue, units_val}
use Rattle.ieee.specs.Numbers.{ltb_scale, le_multiple, no_product, shift, size_gt}
use Rattle.ieee.specs.Values.{low_fits, in_units}
use Rattle.ieee.specs.Patterns.{units_fits}
use Rattle.root.specs.Root.{more, whole_root, root_drop, root_kept, root_of}
use Rattle.root.specs.RootUnits.{root_of_value}
use Rattle.root.specs.RootNear.{root_units_is, kept_high}
use Rattle.root.specs.RootBest.{root_value}

-- ---- the whole numbers
size_shift : (n u : ℕ) → 0 < size n → size (n * 2 ^ u) ≡ size n + u
size_shift n u h =
    let z = size n in
    let lo : 2 ^ (z - 1 + u) ≤ n * 2 ^ u = le_trans (le_of_eq (pow-add 2 (z - 1) u)) (mul-le-mul_right (2 ^ u) (size_reaches n (z - 1) (pred z h))) in
    join z u (size (n * 2 ^ u)) h (size-le (n * 2 ^ u) (z + u) (shl_lt z u (size-lt n))) (size_gt (n * 2 ^ u) (z - 1 + u) lo)
  where
    pred : (z : ℕ) → 0 < z → z - 1 < z
    pred z h = omega arith

    join : (z u x : ℕ) → 0 < z → x ≤ z + u → z - 1 + u < x → x ≡ z + u
    join z u x h a b = omega arith

module _ (n t : ℕ) (big : 104 < size n) where
  some : (z : ℕ) → 104 < z → 0 < z
  some z h = omega arith

  half : (z t : ℕ) → 104 < z → (z + (t + t) + 1) / 2 - 53 ≡ (z + 1) / 2 - 53 + t
  half z t h = omega arith

  drop_shift : root_drop (n * 2 ^ (t + t)) ≡ root_drop n + t
  drop_shift = ap (λ (z : ℕ). (z + 1) / 2 - 53) (size_shift n (t + t) (some (size n) big)) ∙ half (size n) t big

  twice : (k : ℕ) → 2 ^ (k + t + (k + t)) ≡ 2 ^ (k + k) * 2 ^ (t + t)
  twice k = ap (λ (x : ℕ). 2 ^ x) (add k t) ∙ pow-add 2 (k + k) (t + t)
    where
      add : (k t : ℕ) → k + t + (k + t) ≡ k + k + (t + t)
      add k t = omega arith

  cut : (k : ℕ) → n * 2 ^ (t + t) / 2 ^ (k + t + (k + t)) ≡ n / 2 ^ (k + k)
  cut k =
      div_same (n * 2 ^ (t + t)) (2 ^ (k + t + (k + t))) n (2 ^ (k + k)) (pow_pos (k + t + (k + t))) (pow_pos (k + k))
      (mul_assoc n (2 ^ (t + t)) (2 ^ (k + k)) ∙ ap (λ (x : ℕ). n * x) (mul_comm (2 ^ (t + t)) (2 ^ (k + k)) ∙ sym (twice k)))

  test : (k h : ℕ) → ltb (h * 2 ^ (k + t + (k + t))) (4 * (n * 2 ^ (t + t))) ≡ ltb (h * 2 ^ (k + k)) (4 * n)
  test k h =
      let P = 2 ^ (t + t) in
      let e : h * 2 ^ (k + t + (k + t)) ≡ h * 2 ^ (k + k) * P = ap (λ (x : ℕ). h * x) (twice k) ∙ sym (mul_assoc h (2 ^ (k + k)) P) in
      let f : 4 * (n * P) ≡ 4 * n * P = sym (mul_assoc 4 n P) in
      (λ i. ltb (e i) (f i)) ∙ ltb_scale (h * 2 ^ (k + k)) (4 * n) P (pow_pos (t + t))

  kept_shift : root_kept (n * 2 ^ (t + t)) ≡ root_kept n
  kept_shift =
      let m = n * 2 ^ (t + t) in
      let k = root_drop n in
      ap (λ (k : ℕ). let s = whole_root (m / 2 ^ (k + k)) in more (ltb ((2 * s + 1) * (2 * s + 1) * 2 ^ (k + k)) (4 * m)) s) drop_shift
      ∙ ap (λ (x : ℕ). let s = whole_root x in more (ltb ((2 * s + 1) * (2 * s + 1) * 2 ^ (k + t + (k + t))) (4 * m)) s) (cut k)
      ∙ (let s = whole_root (n / 2 ^ (k + k)) in ap (λ (b : Bool). more b s) (test k ((2 * s + 1) * (2 * s + 1))))

  value_shift : root_value (n * 2 ^ (t + t)) ≡ root_value n * 2 ^ t
  value_shift =
      ap (λ (q : ℕ). q * 2 ^ root_drop (n * 2 ^ (t + t))) kept_shift
      ∙ ap (λ (k : ℕ). root_kept n * 2 ^ k) drop_shift
      ∙ sym (shift (root_kept n) (root_drop n) t)

-- so the root of 4 ^ t is 2 ^ t
at_53 : root_value (2 ^ 106) ≡ 2 ^ 53
unfolding whole_root size
at_53 = refl

pub root_power : (t : ℕ) → 53 ≤ t → root_value (2 ^ (t + t)) ≡ 2 ^ t
root_power t h =
    let s = t - 53 in
    ap root_value (ap (λ (x : ℕ). 2 ^ x) (twice t h) ∙ pow-add 2 106 (s + s))
    ∙ value_shift (2 ^ 106) s (size_gt (2 ^ 106) 104 (pow_mono {i = 104} {j = 106} (lit≤ tt)))
    ∙ ap (λ (x : ℕ). x * 2 ^ s) at_53
    ∙ sym (pow-add 2 53 s)
    ∙ ap (λ (x : ℕ). 2 ^ x) (once t h)
  where
    twice : (t : ℕ) → 53 ≤ t → t + t ≡ 106 + (t - 53 + (t - 53))
    twice t h = omega arith

    once : (t : ℕ) → 53 ≤ t → 53 + (t - 53) ≡ t
    once t h = omega arith

-- ---- an f64 of a units
-- the root has all of its 53 digits
pub units_long : (a : ℕ) → 0 < a → 104 < size (a * 2 ^ 1074)
units_long a p = lt_of_lt_of_le (lit< tt) (le_of_lt (size_gt (a * 2 ^ 1074) 1074 (le_multiple a (2 ^ 1074) p)))

-- below 2 ^ 1024, as every f64 is
root_under : (a : ℕ) → 0 < a → a < 2 ^ 2098 → root_value (a * 2 ^ 1074) < 2 ^ 2098
root_under a p h =
    let n = a * 2 ^ 1074 in
    let z : size n ≤ 3172 = size-le n 3172 (shl_lt 2098 1074 h) in
    lt_of_le_of_lt (mul-le-mul (kept_high n (units_long a p)) (pow_mono (few (size n) z)))
    (subst (λ (x : ℕ). x < 2 ^ 2098) (pow-add 2 53 1533) (lit< tt))
  where
    few : (z : ℕ) → z ≤ 3172 → (z + 1) / 2 - 53 ≤ 1533
    few z h = omega arith

root_value_pos : (x : Float) (a : ℕ) → HasValue x false a (2 ^ 1074) → 0 < a → a < 2 ^ 2098 → HasValue (root_of x) false (root_value (a * 2 ^ 1074)) (2 ^ 1074)
root_value_pos x a h p l =
    subst (λ (r : Float). HasValue r false (root_value (a * 2 ^ 1074)) (2 ^ 1074)) (sym (root_of_value x a h p ∙ root_units_is (a * 2 ^ 1074)))
    (units_val binary64 false (root_kept (a * 2 ^ 1074)) (root_drop (a * 2 ^ 1074)) (root_under a p l))

-- of zero it is zero
none : root_value 0 ≡ 0
unfolding whole_root size
none = refl

pub no_root : (a : ℕ) → a ≡ 0 → root_value (a * 2 ^ 1074) ≡ 0
no_root a e = ap root_value (ap (λ (x : ℕ). x * 2 ^ 1074) e ∙ zero-mul (2 ^ 1074)) ∙ none

root_of_zero : (x : Float) → HasValue x false 0 (2 ^ 1074) → root_of x ≡ x
unfolding root_of
root_of_zero nan h = absurd h
root_of_zero (inf t) h = absurd h
root_of_zero (fin t zero e) h = refl
root_of_zero (fin t (suc m) e) h = absurd (no_product (suc m * up e) (2 ^ 1074) (mul-pos (zero-lt-suc m) (up_pos e)) (pow_pos 1074) (h.1 ∙ zero-mul (down e)))

-- the root of an f64 of a units, in units
pub root_value_lem : (x : Float) (a : ℕ) → HasValue x false a (2 ^ 1074) → a < 2 ^ 2098 → HasValue (root_of x) false (root_value (a * 2 ^ 1074)) (2 ^ 1074)
root_value_lem x a h l = elim (eq-zero-or-pos a) [
  | inl z ↦
      let k : HasValue x false 0 (2 ^ 1074) = subst (λ (n : ℕ). HasValue x false n (2 ^ 1074)) z h in
      subst (λ (n : ℕ). HasValue (root_of x) false n (2 ^ 1074)) (sym (no_root a z))
      (subst (λ (r : Float). HasValue r false 0 (2 ^ 1074)) (sym (root_of_zero x k)) k)
  | inr p ↦ root_value_pos x a h p l
]

pub root_value_shift : (a t : ℕ) → root_value (a * 2 ^ (t + t) * 2 ^ 1074) ≡ root_value (a * 2 ^ 1074) * 2 ^ t
root_value_shift a t = elim (eq-zero-or-pos a) [
  | inl z ↦
      no_root (a * 2 ^ (t + t)) (ap (λ (x : ℕ). x * 2 ^ (t + t)) z ∙ zero-mul (2 ^ (t + t))) ∙ sym (ap (λ (x : ℕ). x * 2 ^ t) (no_root a z) ∙ zero-mul (2 ^ t))
  | inr p ↦ ap root_value (mul_right_comm a (2 ^ (t + t)) (2 ^ 1074)) ∙ value_shift (a * 2 ^ 1074) t (units_long a p)
]

-- it is an f64 itself
pub root_held : (x : Float) (a : ℕ) → HasValue x false a (2 ^ 1074) → 0 < a → T (fits binary64 (root_of x))
root_held x a h p =
    let n = a * 2 ^ 1074 in
    subst (λ (z : Float). T (fits binary64 z)) (sym (root_of_value x a h p ∙ root_units_is n))
    (units_fits binary64 false (root_kept n) (root_drop n) (kept_high n (units_long a p)))

pub root_fits : (x : Float) → T (fits binary64 x) → T (fits binary64 (root_of x))
unfolding root_of
root_fits nan t = nan-fits binary64
root_fits (inf s) t = cond-fits binary64 s nan (inf false) (nan-fits binary64) (inf-fits binary64 false)
root_fits (fin s zero e) t = t
root_fits (fin true (suc m) e) t = nan-fits binary64
root_fits (fin false (suc m) e) t =
    let u = in_units 1074 (suc m) e (low_fits binary64 false (suc m) e t) in
    root_held (fin false (suc m) e) (suc m * 2 ^ u.0) (refl, u.1) (mul-pos (zero-lt-suc m) (pow_pos u.0))
