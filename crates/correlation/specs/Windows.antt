-- The sums over the guards of an offset, of two lists of as many terms. Where the terms agree, so do the sums; where those of one list are those of
-- the other, amplified, so are its sums.
-- Assumes nothing.
use Rattle.std.specs.Prelude.{◌≡◌, ℕ, zero, suc, ◌+◌, ◌-◌, ◌*◌, ◌/◌, ◌<◌, ◌≤◌, Bool, true, false, cond, T, List, [], ◌∷◌, ◌++◌, map, length, get_or}
use Rattle.std.specs.Prelude.{nat_le, slice_index_or, refl, Float}
use Rattle.std.proofs.Common.{zero-le, suc-le-suc, ap, ◌∙◌, le_trans, le_of_eq, le_of_suc-le-suc, not-suc-le-zero, div-lt_iff_lt-mul, arith, leb→le}
use Rattle.std.specs.Float.{nan, Format, binary64}
use Rattle.std.specs.Float.Ieee.{of_bits, add, sub, fits}
use Rattle.std.specs.Float.Ieee.Fits.{add-fits, sub-fits}
use Rattle.ieee.specs.Constants.{plus_zero}
use Rattle.ieee.specs.Levels.{Level, Scaled, many, roomy}
use Rattle.ieee.specs.Sums.{total, total_plain, prefixes, Each, Held}
use Rattle.ieee.specs.Zeros.{canon}
use Rattle.lists.specs.Lists.{up_to, select}
use Rattle.lists.specs.Select.{length_up_to, up_to_same}
use Rattle.complex.specs.Changes.{most}
use Rattle.complex.specs.Bounds.{prefix_level, guess_level, prefix_gain, difference_gain, guess_sum_gain}
use Rattle.correlation.specs.Correlation.{starts, window_sum}

-- ---- two lists, value for value
module _ {A : Type 0} (R : A → A → Type 0) where
  each_append : (xs ys us vs : List A) → Each R xs ys → Each R us vs → Each R (xs ++ us) (ys ++ vs)
  unfolding Each
  each_append [] [] us vs h g = g
  each_append [] (y ∷ ys) us vs h g = absurd h
  each_append (x ∷ xs) [] us vs h g = absurd h
  each_append (x ∷ xs) (y ∷ ys) us vs h g = (h.0, each_append xs ys us vs h.1 g)

  each_up_to : (f g : ℕ → A) (n : ℕ) → ((i : ℕ) → i < n → R (f i) (g i)) → Each R (up_to f n) (up_to g n)
  unfolding Each
  each_up_to f g zero h = tt
  each_up_to f g (suc n) h =
      each_append (up_to f n) (up_to g n) (f n ∷ []) (g n ∷ []) (each_up_to f g n (λ i l. h i (omega arith))) (h n (omega arith), tt)

  each_at : (d : A) (xs ys : List A) (i : ℕ) → Each R xs ys → i < length xs → R (slice_index_or xs i d) (slice_index_or ys i d)
  unfolding Each
  each_at d [] ys i h l = absurd (not-suc-le-zero l)
  each_at d (x ∷ xs) [] i h l = absurd h
  each_at d (x ∷ xs) (y ∷ ys) zero h l = h.0
  each_at d (x ∷ xs) (y ∷ ys) (suc i) h l = each_at d xs ys i h.1 (le_of_suc-le-suc l)

  -- only the numbers that pass are looked at
  each_selected : (f g : ℕ → A) (p : ℕ → Bool) (xs : List ℕ) → ((a : ℕ) → T (p a) → R (f a) (g a))
      → Each R (map f (select p xs)) (map g (select p xs))
  unfolding Each
  each_selected f g p [] h = tt
  each_selected f g p (x ∷ xs) h = by (p x) (h x) (each_selected f g p xs h)
    where
      by : (b : Bool) → (T b → R (f x) (g x)) → Each R (map f (select p xs)) (map g (select p xs))
          → Each R (map f (cond b (x ∷ select p xs) (select p xs))) (map g (cond b (x ∷ select p xs) (select p xs)))
      by true r e = (r tt, e)
      by false r e = e

-- ---- lengths
length_selected : {A : Type 0} (f : ℕ → A) (p : ℕ → Bool) (xs : List ℕ) → length (map f (select p xs)) ≤ length xs
length_selected f p [] = zero-le
length_selected f p (x ∷ xs) = by (p x) (length_selected f p xs)
  where
    by : (b : Bool) → length (map f (select p xs)) ≤ length xs → length (map f (cond b (x ∷ select p xs) (select p xs))) ≤ suc (length xs)
    by true l = suc-le-suc l
    by false l = omega arith

length_prefixes : (f : Format) (s : Float) (xs : List Float) → length (prefixes f s xs) ≡ suc (length xs)
unfolding prefixes
length_prefixes f s [] = refl
length_prefixes f s (x ∷ xs) = ap suc (length_prefixes f (add f s x) xs)

-- symbols of 2,048 samples or more: at most 512 guards
few_guards : (len ng p : ℕ) → len ≤ 1048576 → 2048 ≤ p → (len - ng) / p ≤ 512
few_guards len ng p L P = le_of_suc-le-suc ((div-lt_iff_lt-mul (omega arith)).1 (omega arith))

-- ---- the sum of the guards' differences, of the terms t
abbrev pub guard_sum : (ℕ → Float) → ℕ → ℕ → ℕ → ℕ → Float
guard_sum t p ng len d = window_sum (prefixes binary64 (plus_zero binary64) (up_to t len)) ng (starts p ng len d)

-- terms that agree have the same sum
pub sum_same : (t u : ℕ → Float) (p ng len d : ℕ) → ((i : ℕ) → i < len → t i ≡ u i) → guard_sum t p ng len d ≡ guard_sum u p ng len d
sum_same t u p ng len d h = ap (λ (l : List Float). window_sum (prefixes binary64 (plus_zero binary64) l) ng (starts p ng len d)) (up_to_same t u len h)

total_fits : (f : Format) (s : Float) (xs : List Float) → T (fits f s) → T (fits f (total f s xs))
unfolding total
total_fits f s [] h = h
total_fits f s (x ∷ xs) h = total_fits f (add f s x) xs (add-fits f s x)

zero_fits : T (fits binary64 (plus_zero binary64))
unfolding of_bits fits
zero_fits = tt

pub window_fits : (sums : List Float) (ng : ℕ) (from : List ℕ) → T (fits binary64 (window_sum sums ng from))
unfolding window_sum
window_fits sums ng from = total_fits binary64 (plus_zero binary64) _ zero_fits

-- it starts at +0.0, so it is never -0.0
differences_held : {A : Type 0} (f : Format) (g h : A → Float) (xs : List A) → Held f (map (λ a. sub f (g a) (h a)) xs)
unfolding Held
differences_held f g h [] = tt
differences_held f g h (x ∷ xs) = (sub-fits f (g x) (h x), differences_held f g h xs)

zero_plain : canon (plus_zero binary64) ≡ plus_zero binary64
unfolding of_bits
zero_plain = refl

pub window_plain : (sums : List Float) (ng : ℕ) (from : List ℕ) → canon (window_sum sums ng from) ≡ window_sum sums ng from
unfolding window_sum
window_plain sums ng from =
    total_plain binary64 (plus_zero binary64) _ zero_fits zero_plain
    (differences_held binary64 (λ a. get_or sums (a + ng) nan) (λ a. get_or sums a nan) from)

module _ (k : ℕ) (K : k ≤ most) (l : Level) (R : T (roomy binary64 most (guess_level l))) where
  -- a guard that ends within the terms reads prefix sums that are there
  difference_at : (us vs : List Float) (ng len a : ℕ) → length us ≡ suc len → Each (Scaled (prefix_level l) k) us vs → a + ng ≤ len
      → Scaled (many 2 (prefix_level l)) k (sub binary64 (slice_index_or us (a + ng) nan) (slice_index_or us a nan))
      (sub binary64 (slice_index_or vs (a + ng) nan) (slice_index_or vs a nan))
  difference_at us vs ng len a n h e =
      difference_gain k K l R _ _ _ _ (each_at (Scaled (prefix_level l) k) nan us vs (a + ng) h (omega arith))
      (each_at (Scaled (prefix_level l) k) nan us vs a h (omega arith))

  window_gain : (us vs : List Float) (p ng len d : ℕ) → len ≤ 1048576 → 2048 ≤ p → length us ≡ suc len → Each (Scaled (prefix_level l) k) us vs
      → Scaled (guess_level l) k (window_sum us ng (starts p ng len d)) (window_sum vs ng (starts p ng len d))
  unfolding window_sum starts
  window_gain us vs p ng len d L P n h =
      let from = up_to (λ s. d + s * p) ((len - ng) / p) in
      guess_sum_gain k K l R _ _
      (le_trans (length_selected _ (λ a. nat_le (a + ng) len) from) (le_trans (le_of_eq (length_up_to _ ((len - ng) / p))) (few_guards len ng p L P)))
      (each_selected (Scaled (many 2 (prefix_level l)) k) _ _ (λ a. nat_le (a + ng) len) from (λ a t. difference_at us vs ng len a n h (leb→le _ _ t)))

  pub sum_gain : (t u : ℕ → Float) (p ng len d : ℕ) → len ≤ 1048576 → 2048 ≤ p → ((i : ℕ) → i < len → Scaled l k (t i) (u i))
      → Scaled (guess_level l) k (guard_sum t p ng len d) (guard_sum u p ng len d)
  sum_gain t u p ng len d L P h =
      window_gain _ _ p ng len d L P (length_prefixes binary64 (plus_zero binary64) (up_to t len) ∙ ap suc (length_up_to t len))
      (prefix_gain k K l R (up_to t len) (up_to u len) (le_trans (le_of_eq (length_up_to t len)) L) (each_up_to (Scaled l k) t u len h))
