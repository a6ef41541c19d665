-- The root under a gain, and the narrowed root. The root of 4 ^ t times a number is 2 ^ t times its root, digit for digit, as long as nothing
-- overflows. A root leaves the units of its operand; but a number that is zero, or at least 2 ^ -(u + u), has a root that is zero, or at
-- least 2 ^ -u, and so is a whole number of a finer unit again (`grain`).
-- Assumes nothing.
use Rattle.std.specs.Prelude.{◌≡◌, refl, Bool, false, ℕ, ◌+◌, ◌-◌, ◌*◌, ◌^◌, ◌<◌, ◌≤◌, T, leb, Float}
use Rattle.std.proofs.Common.{sym, ap, ◌∙◌, subst, inl, inr, zero-le, le_trans, le_of_eq, lt_of_le_of_lt, lt_irrefl, one-mul, zero-mul, mul_comm}
use Rattle.std.proofs.Common.{mul_assoc, mul_left_comm, mul_right_comm, add-mul, le-add_left, mul-le-mul_right, eq-zero-or-pos, arith, leb→le}
use Rattle.std.proofs.Common.{pow-add, pow_pos, pow_mono}
use Rattle.std.specs.Float.{binary32, binary64}
use Rattle.std.specs.Float.Ieee.{size, fits}
use Rattle.std.specs.Float.Ieee.Fits.{round-fits}
use Rattle.std.specs.Float.Ieee.Exact.{HasValue}
use Rattle.std.specs.Float.Ieee.Positive.{first_pos}
use Rattle.root.specs.Root.{root_of}
use Rattle.ieee.specs.Narrow.{narrow_of}
use Rattle.ieee.specs.Numbers.{le_multiple, shift, grows, size_gt}
use Rattle.ieee.specs.Signs.{negative}
use Rattle.ieee.specs.Values.{zero_value, to_finer, sign_is}
use Rattle.ieee.specs.Times.{Times}
use Rattle.ieee.specs.Levels.{Level, Scaled, roomy, grain}
use Rattle.ieee.specs.Gain.{no_overflow, room, in_range, regrained}
use Rattle.ieee.specs.NarrowGain.{narrow_of_value, narrow_scaled, narrow_low}
use Rattle.root.specs.RootBest.{root_value, root_value_mono}
use Rattle.root.specs.RootShift.{units_long, no_root, root_value_lem, root_held, root_power, root_value_shift}

-- a zero is at every level
zero_level : (k : ℕ) (l : Level) (x y : Float) (t : Times (l.power * k) x y) → t.up ≡ 0 → Scaled l k x y
zero_level k l x y t z =
    let P = 2 ^ (l.power * k) in
    record {
      sign = t.sign;
      count = 0;
      few = zero-le;
      here = zero_value x t.sign t.up 0 t.over (2 ^ l.unit) t.some z refl t.here;
      there = zero_value y t.sign (t.up * P) (0 * P) t.over (2 ^ l.unit) t.some (ap (λ (i : ℕ). i * P) z ∙ zero-mul P) (zero-mul P)
          t.there;
    }

-- ---- the root
counted : (a : ℕ) → 0 < root_value (a * 2 ^ 1074) → 0 < a
counted a h = elim (eq-zero-or-pos a) [ inl z ↦ absurd (lt_irrefl 0 (subst (λ (n : ℕ). 0 < n) (no_root a z) h)) | inr p ↦ p ]

module _ (top k p : ℕ) (l : Level) (x y : Float) (K : k ≤ top) (R : T (roomy binary64 top l)) (P : l.power ≡ p + p) (s : negative x ≡ false)
    (h : Scaled l k x y) where
  -- x in units of 2 ^ -1074
  abbrev units : ℕ
  units = h.count * 2 ^ (1074 - l.unit)

  plus : h.sign ≡ false
  plus = sym (sign_is x h.sign h.count (2 ^ l.unit) h.here) ∙ s

  here : HasValue x false units (2 ^ 1074)
  here = subst (λ (b : Bool). HasValue x b units (2 ^ 1074)) plus (to_finer x h.sign h.count l.unit 1074 (room binary64 top l R).0 h.here)

  factor : h.count * 2 ^ (l.power * k) * 2 ^ (1074 - l.unit) ≡ units * 2 ^ (p * k + p * k)
  factor = mul_right_comm h.count (2 ^ (l.power * k)) (2 ^ (1074 - l.unit)) ∙ ap (λ (j : ℕ). units * 2 ^ j) (ap (λ (j : ℕ). j * k) P ∙ add-mul p p k)

  there : HasValue y false (units * 2 ^ (p * k + p * k)) (2 ^ 1074)
  there =
      subst (λ (b : Bool). HasValue y b (units * 2 ^ (p * k + p * k)) (2 ^ 1074)) plus
      (subst (λ (n : ℕ). HasValue y h.sign n (2 ^ 1074)) factor
      (to_finer y h.sign (h.count * 2 ^ (l.power * k)) l.unit 1074 (room binary64 top l R).0 h.there))

  under : units * 2 ^ (p * k + p * k) < 2 ^ 2098
  under =
      subst (λ (n : ℕ). n < 2 ^ 2098) factor
      (no_overflow binary64 l.unit (room binary64 top l R).0 (h.count * 2 ^ (l.power * k)) (in_range binary64 top k l h.count K R h.few))

  abbrev root_pair : Times (p * k) (root_of x) (root_of y)
  root_pair =
      record {
        sign = false;
        up = root_value (units * 2 ^ 1074);
        over = 2 ^ 1074;
        some = pow_pos 1074;
        here = root_value_lem x units here (lt_of_le_of_lt (grows units (p * k + p * k)) under);
        there = subst (λ (n : ℕ). HasValue (root_of y) false n (2 ^ 1074)) (root_value_shift units (p * k))
            (root_value_lem y (units * 2 ^ (p * k + p * k)) there under);
      }

  root_fits : 0 < root_value (units * 2 ^ 1074) → T (fits binary64 (root_of x))
  root_fits some = root_held x units here (counted units some)

-- by values alone
pub root_times : (top k p : ℕ) (l : Level) (x y : Float) → k ≤ top → T (roomy binary64 top l) → l.power ≡ p + p → negative x ≡ false → Scaled l k x y
    → Times (p * k) (root_of x) (root_of y)
root_times top k p l x y K R P s h = root_pair top k p l x y K R P s h

-- ---- how small and how large: c units of 2 ^ -v, v = u + u, are c * 4 ^ t in the root's units, t = 1074 - u
module _ (c u v : ℕ) (U : v ≡ u + u) (W : v ≤ 1074) where
  abbrev t : ℕ
  t = 1074 - u

  abbrev a : ℕ
  a = c * 2 ^ (1074 - v)

  abbrev n : ℕ
  n = a * 2 ^ 1074

  n_is : n ≡ c * 2 ^ (t + t)
  n_is = shift c (1074 - v) 1074 ∙ ap (λ (i : ℕ). c * 2 ^ i) (let e : 1074 - v + 1074 ≡ t + t = omega arith in e)

  large : 53 ≤ t
  large = omega arith

  up_to : 2 ^ t * 2 ^ u ≡ 2 ^ 1074
  up_to = sym (pow-add 2 t u) ∙ ap (λ (i : ℕ). 2 ^ i) (let e : t + u ≡ 1074 = omega arith in e)

  long : 104 < size (2 ^ (t + t))
  long = size_gt (2 ^ (t + t)) 104 (pow_mono (let q : 104 ≤ t + t = omega arith in q))

  root_low : 0 < root_value n → 2 ^ 1074 ≤ root_value n * 2 ^ u
  root_low some =
      let P = 2 ^ (t + t) in
      let least : P ≤ n = le_trans (le_multiple c P (first_pos c (2 ^ (1074 - v)) (counted a some))) (le_of_eq (sym n_is)) in
      le_trans (le_of_eq (sym up_to)) (mul-le-mul_right (2 ^ u) (le_trans (le_of_eq (sym (root_power t large))) (root_value_mono P n long least)))

  root_high : (i : ℕ) → 0 < root_value n → c ≤ 2 ^ (i + i) → root_value n * 2 ^ u ≤ 2 ^ i * 2 ^ 1074
  root_high i some h =
      let w = i + t in
      let most : n ≤ 2 ^ (w + w) =
      le_trans (le_of_eq n_is)
      (le_trans (mul-le-mul_right (2 ^ (t + t)) h) (le_of_eq (sym (pow-add 2 (i + i) (t + t)) ∙ ap (λ (j : ℕ). 2 ^ j) (pairs i t)))) in
      le_trans (mul-le-mul_right (2 ^ u)
      (le_trans (root_value_mono n (2 ^ (w + w)) (units_long a (counted a some)) most)
      (le_of_eq (root_power w (le_trans large (le-add_left t i)) ∙ pow-add 2 i t))))
      (le_of_eq (mul_assoc (2 ^ i) (2 ^ t) (2 ^ u) ∙ ap (λ (j : ℕ). 2 ^ i * j) up_to))
    where
      pairs : (i t : ℕ) → i + i + (t + t) ≡ i + t + (i + t)
      pairs i t = omega arith

-- x is at most 2 ^ (i + i) units of 2 ^ -(u + u)
pub root_scaled : (top k u i p : ℕ) (l : Level) (x y : Float) → k ≤ top → T (roomy binary64 top l) → l.unit ≡ u + u → l.power ≡ p + p
    → T (leb (l.most * 2 ^ l.digits) (2 ^ (i + i))) → negative x ≡ false → Scaled l k x y → Scaled (grain binary64 u i p) k (root_of x) (root_of y)
root_scaled top k u i p l x y K R U P I s h =
    let r = root_pair top k p l x y K R P s h in
    let W = (room binary64 top l R).0 in
    elim (eq-zero-or-pos r.up) [
      | inl z ↦ zero_level k (grain binary64 u i p) (root_of x) (root_of y) r z
      | inr q ↦
          regrained binary64 k u i p (root_of x) (root_of y) (root_fits top k p l x y K R P s h q) r (root_low h.count u l.unit U W)
          (root_high h.count u l.unit U W i q (le_trans h.few (leb→le (l.most * 2 ^ l.digits) (2 ^ (i + i)) I)))
    ]

pub narrow_root_scaled : (top k u i p : ℕ) (l : Level) (x y : Float) → k ≤ top → T (roomy binary64 top l) → l.unit ≡ u + u → l.power ≡ p + p
    → T (leb (l.most * 2 ^ l.digits) (2 ^ (i + i))) → T (roomy binary32 top (grain binary64 u i p)) → negative x ≡ false → Scaled l k x y
    → Scaled (grain binary32 u i p) k (narrow_of (root_of x)) (narrow_of (root_of y))
narrow_root_scaled top k u i p l x y K R U P I N s h =
    let r = root_pair top k p l x y K R P s h in
    let g = grain binary64 u i p in
    let w = narrow_scaled top k g (root_of x) (root_of y) K N (root_scaled top k u i p l x y K R U P I s h) in
    regrained binary32 k u i p (narrow_of (root_of x)) (narrow_of (root_of y))
    (subst (λ (z : Float). T (fits binary32 z)) (sym (narrow_of_value (root_of x) false r.up (2 ^ 1074) (pow_pos 1074) r.here))
    (round-fits binary32 false r.up (2 ^ 1074)))
    (record { sign = w.sign; up = w.count; over = 2 ^ (u + 52); some = pow_pos (u + 52); here = w.here; there = w.there })
    (narrow_low (root_of x) w.sign r.up (2 ^ 1074) w.count (2 ^ (u + 52)) u (part u (room binary32 top g N).0) (pow_pos 1074)
    (root_low h.count u l.unit U (room binary64 top l R).0) r.here w.here)
    (le_trans (mul-le-mul_right (2 ^ u) w.few) (le_of_eq (powers i u)))
  where
    part : (u : ℕ) → u + 52 ≤ 149 → u ≤ 149
    part u h = omega arith

    powers : (i u : ℕ) → 1 * 2 ^ (i + 52) * 2 ^ u ≡ 2 ^ i * 2 ^ (u + 52)
    powers i u = simp (one-mul, pow-add, mul_assoc, mul_comm, mul_left_comm)
