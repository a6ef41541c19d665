-- The guess does not depend on the phase or the gain at which the recorder ran: samples, which are spectra of one pair, that are negated, turned by a
-- quarter and amplified by a power of two (`Changed` and `Allowed` of spectra/specs/Changes) find the same, but for both parts of the
-- correlation, which are multiplied by the gain twice (`louder`).
-- Assumes nothing.
use Prim.Native.Nat.{ℕ, suc, ◌+◌, ◌-◌, ◌*◌, ◌≤◌, ◌<◌}
use Rattle.std.specs.Prelude.{Bool, false, List, [], ◌∷◌, ◌≡◌, refl, leb, ltb, length, Float, Option, Some, None, Ok}
use Rattle.std.proofs.Math.Bool.{true, cond}
use Rattle.std.proofs.Common.{sym, subst, ◌∙◌, arith, lit<}
use Rattle.std.proofs.Math.Path.{ap}
use Rattle.std.specs.Float.{binary32, binary64}
use Rattle.std.specs.Float.Ieee.{add, mul, div, lt, le}
use Rattle.lists.specs.Lists.{range}
use Rattle.lists.specs.Tests.{all_in, both_left, both_right}
use Rattle.ieee.specs.Constants.{plus_zero, plus_zero_is, half}
use Rattle.ieee.specs.Levels.{Scaled}
use Rattle.ieee.specs.Times.{Times, zero_times, le_times}
use Rattle.ieee.specs.Gain.{times_of, scaled_product}
use Rattle.complex.specs.Complex.{Pair, pair, product, conjugate, squared_size, norm64}
use Rattle.complex.specs.Changes.{negated, turn_if, gain_by, most, WholePair, amplified, Change, of_samples}
use Rattle.complex.specs.Turns.{changed_product, changed_size}
use Rattle.complex.specs.Gains.{BothScaled}
use Rattle.complex.specs.Bounds.{gain_cases, part_level, step_level, energy_level, guess_level}
use Rattle.complex.specs.Bounds.{part_gain, step_gain, energy_gain, metric_gain, correlation_roomy}
use Rattle.spectra.specs.Spectra.{pair_at}
use Rattle.spectra.specs.Changes.{Changed, Wholes, Allowed}
use Rattle.samples_needed.specs.Samples.{is_mode, fft_of, guard_of, symbol_of}
use Rattle.correlation.specs.Correlation.{pairs_in, lags_in, lag_product, lag_energy}
use Rattle.guess.specs.Guess.{correlation_at, energy_at, guess_at}
use Rattle.guess.specs.Guess.{beats, offered, scan, tried_guard, tried_mode, guessed, guess_given}
use Rattle.guess.specs.Louder.{twice_gained, louder_guess, louder}
use Rattle.guess.specs.Facts.{all_true, cond_keeps, search_keeps}
use Rattle.guess.specs.Windows.{correlation_same, energy_same, correlation_louder, energy_louder, correlation_fits}
use Rattle.guess.specs.declared.ModeGuess.{ModeGuess}

-- ---- a search goes the same way where every step of it does
louder_cond : (k : ℕ) (b : Bool) (x y : Option ModeGuess) → cond b (louder k x) (louder k y) ≡ louder k (cond b x y)
louder_cond k true x y = refl
louder_cond k false x y = refl

-- p says which entries are met
louder_scan : (k : ℕ) (p : ℕ → Bool) (f g : Option ModeGuess → ℕ → Option ModeGuess) (xs : List ℕ) (best : Option ModeGuess) → all_in p xs ≡ true
    → ((best : Option ModeGuess) (x : ℕ) → p x ≡ true → f (louder k best) x ≡ louder k (g best x)) → scan f (louder k best) xs ≡ louder k (scan g best xs)
unfolding scan
louder_scan k p f g [] best t h = refl
louder_scan k p f g (x ∷ xs) best t h =
    ap (λ (b : Option ModeGuess). scan f b xs) (h best x (both_left (p x) (all_in p xs) t))
    ∙ louder_scan k p f g xs (g best x) (both_right (p x) (all_in p xs) t) h

-- what ys has at an offset is what xs has there, but for the gain
record Kept (k : ℕ) (xs ys : List Float) (mode guard d : ℕ) : Type 0 where
  passed : le (energy_at ys mode guard d) (plus_zero binary64) ≡ le (energy_at xs mode guard d) (plus_zero binary64)
  guess : guess_at ys mode guard d ≡ louder_guess k (guess_at xs mode guard d)

module _ (k : ℕ) (xs ys : List Float) (long : length ys ≡ length xs)
    (kept : (mode guard d : ℕ) → is_mode mode ≡ true → Kept k xs ys mode guard d) where
  beats_same : (mode guard d : ℕ) → is_mode mode ≡ true → (best : Option ModeGuess)
      → beats (guess_at ys mode guard d) (louder k best) ≡ beats (guess_at xs mode guard d) best
  beats_same mode guard d m (Some best) = ap (λ (g : ModeGuess). lt best.metric g.metric) (kept mode guard d m).guess
  beats_same mode guard d m None = refl

  offered_louder : (mode guard : ℕ) → is_mode mode ≡ true → (best : Option ModeGuess) (d : ℕ)
      → offered ys mode guard (louder k best) d ≡ louder k (offered xs mode guard best d)
  offered_louder mode guard m best d =
      let e = kept mode guard d m in
      let g = guess_at xs mode guard d in
      let b = beats g best in
      (λ i. cond (e.passed i) (louder k best) (cond (beats_same mode guard d m best i) (Some (e.guess i)) (louder k best)))
      ∙ ap (λ (z : Option ModeGuess). cond (le (energy_at xs mode guard d) (plus_zero binary64)) (louder k best) z) (louder_cond k b (Some g) best)
      ∙ louder_cond k (le (energy_at xs mode guard d) (plus_zero binary64)) best (cond b (Some g) best)

  guard_louder : (mode : ℕ) → is_mode mode ≡ true → (best : Option ModeGuess) (guard : ℕ)
      → tried_guard ys mode (louder k best) guard ≡ louder k (tried_guard xs mode best guard)
  unfolding tried_guard
  guard_louder mode m best guard =
      let offsets = range (symbol_of mode guard) in
      let need = guard_of mode guard + 4 * symbol_of mode guard in
      (λ i. cond (leb need (pairs_in (long i) - fft_of mode))
      (louder_scan k (λ d. true) (offered ys mode guard) (offered xs mode guard) offsets best (all_true offsets) (λ b d t. offered_louder mode guard m b d) i)
      (louder k best))
      ∙ louder_cond k (leb need (lags_in (fft_of mode) xs)) (scan (offered xs mode guard) best offsets) best

  mode_louder : (guards : List ℕ) (best : Option ModeGuess) (mode : ℕ) → is_mode mode ≡ true
      → tried_mode ys guards (louder k best) mode ≡ louder k (tried_mode xs guards best mode)
  unfolding tried_mode
  mode_louder guards best mode m =
      (λ i. cond (ltb (fft_of mode) (pairs_in (long i)))
      (louder_scan k (λ d. true) (tried_guard ys mode) (tried_guard xs mode) guards best (all_true guards) (λ b d t. guard_louder mode m b d) i)
      (louder k best))
      ∙ louder_cond k (ltb (fft_of mode) (pairs_in (length xs))) (scan (tried_guard xs mode) best guards) best

  search_louder : (modes guards : List ℕ) → all_in is_mode modes ≡ true → guessed ys modes guards ≡ louder k (guessed xs modes guards)
  unfolding guessed
  search_louder modes guards M = louder_scan k is_mode (tried_mode ys guards) (tried_mode xs guards) modes None M (λ b mode m. mode_louder guards b mode m)

-- ---- samples are spectra of one pair
-- what `of_samples` makes of a change
abbrev sampled : Bool → Bool → ℕ → Change
sampled negates turns gain = record { negates = λ j. negates; turns = turns; gain = gain }

-- ys is xs, changed
abbrev ChangedSamples : Bool → Bool → ℕ → List Float → List Float → Type 0
ChangedSamples negates turns gain xs ys = Changed (sampled negates turns gain) 1 (λ b. b) xs ys

sample_number : (i : ℕ) → i * 1 + 0 ≡ i
sample_number i = omega arith

sample_changed : (negates turns : Bool) (gain : ℕ) (xs ys : List Float) → ChangedSamples negates turns gain xs ys → (i : ℕ) → i < pairs_in (length xs)
    → pair_at ys i ≡ negated negates (turn_if turns (gain_by gain (pair_at xs i)))
sample_changed negates turns gain xs ys h i I = rw (sample_number i) at (h.pairs i 0 I (lit< tt))

sample_whole : (xs : List Float) → Wholes 1 xs → (i : ℕ) → i < pairs_in (length xs) → WholePair (pair_at xs i)
sample_whole xs h i I = rw (sample_number i) at (h.pairs i 0 I (lit< tt))

-- ---- two samples n apart: signs and turn cancel, and the gain stays
abbrev halved : Float → Float → Float
halved a b = mul binary64 (add binary32 a b) half

-- both samples are there
first_in : (m n i : ℕ) → i < m - n → i < m
first_in m n i h = omega arith

second_in : (m n i : ℕ) → i < m - n → i + n < m
second_in m n i h = omega arith

module _ (negates turns : Bool) (gain : ℕ) (xs ys : List Float) (h : ChangedSamples negates turns gain xs ys) (n i : ℕ) (I : i < lags_in n xs) where
  p : pair_at ys i ≡ negated negates (turn_if turns (gain_by gain (pair_at xs i)))
  p = sample_changed negates turns gain xs ys h i (first_in (pairs_in (length xs)) n i I)

  q : pair_at ys (i + n) ≡ negated negates (turn_if turns (gain_by gain (pair_at xs (i + n))))
  q = sample_changed negates turns gain xs ys h (i + n) (second_in (pairs_in (length xs)) n i I)

  lag_product_lem : lag_product n ys i ≡ product binary32 (gain_by gain (pair_at xs i)) (conjugate (gain_by gain (pair_at xs (i + n))))
  lag_product_lem =
      (λ j. product binary32 (p j) (conjugate (q j)))
      ∙ changed_product binary32 negates turns (gain_by gain (pair_at xs i)) (gain_by gain (pair_at xs (i + n)))

  lag_energy_lem : lag_energy n ys i ≡ halved (squared_size binary32 (gain_by gain (pair_at xs i))) (squared_size binary32 (gain_by gain (pair_at xs (i + n))))
  lag_energy_lem =
      (λ j. halved (squared_size binary32 (p j)) (squared_size binary32 (q j)))
      ∙ (λ j. halved (same (pair_at xs i) j) (same (pair_at xs (i + n)) j))
    where
      same : (x : Pair) → squared_size binary32 (negated negates (turn_if turns (gain_by gain x))) ≡ squared_size binary32 (gain_by gain x)
      same x = changed_size binary32 negates turns (gain_by gain x)

-- the guess at an offset is these sums
guess_is : (k : ℕ) (xs ys : List Float) (mode guard d : ℕ) → let c = correlation_at xs mode guard d in let e = correlation_at ys mode guard d in
    div binary64 (norm64 e) (energy_at ys mode guard d) ≡ div binary64 (norm64 c) (energy_at xs mode guard d)
    → e.re ≡ twice_gained k c.re → e.im ≡ twice_gained k c.im → guess_at ys mode guard d ≡ louder_guess k (guess_at xs mode guard d)
unfolding guess_at
guess_is k xs ys mode guard d m r i = λ j. record { mode = mode; guard = guard; offset = d; metric = m j; correlation = record { re = r j; im = i j } }

-- ---- without a gain all sums are the same
module _ (negates turns : Bool) (xs ys : List Float) (h : ChangedSamples negates turns 0 xs ys) (mode guard d : ℕ) where
  turned_kept : Kept 0 xs ys mode guard d
  turned_kept =
      let c = correlation_same xs ys h.long mode guard d (λ i I. lag_product_lem negates turns 0 xs ys h (fft_of mode) i I) in
      let e = energy_same xs ys h.long mode guard d (λ i I. lag_energy_lem negates turns 0 xs ys h (fft_of mode) i I) in
      record {
        passed = ap (λ (z : Float). le z (plus_zero binary64)) e;
        guess =
            guess_is 0 xs ys mode guard d (λ j. div binary64 (norm64 (c j)) (e j)) (ap (λ (z : Pair). z.re) c) (ap (λ (z : Pair). z.im) c);
      }

-- ---- a gain goes into all sums twice
-- at or below +0.0 or not is the same of both
at_zero_gain : (k : ℕ) (x y : Float) → Scaled (guess_level energy_level) k x y → le y (plus_zero binary64) ≡ le x (plus_zero binary64)
at_zero_gain k x y h =
    sym (le_times (2 * k) x y _ _ (times_of k (guess_level energy_level) x y h)
    (subst (λ (z : Float). Times (2 * k) z z) (sym (plus_zero_is binary64)) (zero_times (2 * k) false)))

module _ (negates turns : Bool) (g : ℕ) (K : suc g ≤ most) (xs ys : List Float) (N : pairs_in (length xs) ≤ 1048576)
    (w : Wholes 1 xs) (h : ChangedSamples negates turns (suc g) xs ys) where
  abbrev k : ℕ
  k = suc g

  module _ (n i : ℕ) (I : i < lags_in n xs) where
    a : BothScaled part_level k (pair_at xs i) (amplified k (pair_at xs i))
    a = part_gain k K (pair_at xs i) (sample_whole xs w i (first_in (pairs_in (length xs)) n i I))

    b : BothScaled part_level k (pair_at xs (i + n)) (amplified k (pair_at xs (i + n)))
    b = part_gain k K (pair_at xs (i + n)) (sample_whole xs w (i + n) (second_in (pairs_in (length xs)) n i I))

    gained_product : BothScaled step_level k (lag_product n xs i) (lag_product n ys i)
    gained_product =
        subst (λ (z : Pair). BothScaled step_level k (lag_product n xs i) z) (sym (lag_product_lem negates turns k xs ys h n i I)) (step_gain k K _ _ _ _ a b)

    gained_energy : Scaled energy_level k (lag_energy n xs i) (lag_energy n ys i)
    gained_energy =
        subst (λ (z : Float). Scaled energy_level k (lag_energy n xs i) z) (sym (lag_energy_lem negates turns k xs ys h n i I)) (energy_gain k K _ _ _ _ a b)

  gained_correlation : (mode guard d : ℕ) → is_mode mode ≡ true
      → BothScaled (guess_level step_level) k (correlation_at xs mode guard d) (correlation_at ys mode guard d)
  gained_correlation mode guard d m = correlation_louder xs ys h.long mode guard d k K N m (λ i I. gained_product (fft_of mode) i I)

  gained_kept : (mode guard d : ℕ) → is_mode mode ≡ true → Kept k xs ys mode guard d
  gained_kept mode guard d m =
      let c = gained_correlation mode guard d m in
      let e = energy_louder xs ys h.long mode guard d k K N m (λ i I. gained_energy (fft_of mode) i I) in
      let p = correlation_fits xs mode guard d in
      let q = correlation_fits ys mode guard d in
      record {
        passed = at_zero_gain k _ _ e;
        guess =
            guess_is k xs ys mode guard d (sym (metric_gain k K _ _ _ _ c e))
            (scaled_product binary64 most k (guess_level step_level) _ _ K correlation_roomy p.0 q.0 c.re)
            (scaled_product binary64 most k (guess_level step_level) _ _ K correlation_roomy p.1 q.1 c.im);
      }

-- ---- with a gain or without
by_gain : (negates turns : Bool) (gain : ℕ) (xs ys : List Float) (modes guards : List ℕ) → all_in is_mode modes ≡ true → pairs_in (length xs) ≤ 1048576
    → Allowed (sampled negates turns gain) 1 xs → ChangedSamples negates turns gain xs ys → guessed ys modes guards ≡ louder gain (guessed xs modes guards)
by_gain negates turns gain xs ys modes guards M N A =
    gain_cases (λ k. ChangedSamples negates turns k xs ys → guessed ys modes guards ≡ louder k (guessed xs modes guards)) gain A
    (λ h. search_louder 0 xs ys h.long (λ mode guard d m. turned_kept negates turns xs ys h mode guard d) modes guards M)
    (λ g K w h. search_louder (suc g) xs ys h.long (λ mode guard d m. gained_kept negates turns g K xs ys N w h mode guard d m) modes guards M)

pub changed_guess : (negates : Bool) (c : Change) (xs ys : List Float) (modes guards : List ℕ) → all_in is_mode modes ≡ true → pairs_in (length xs) ≤ 1048576
    → Allowed (of_samples negates c) 1 xs → Changed (of_samples negates c) 1 (λ b. b) xs ys
    → guessed ys modes guards ≡ louder c.gain (guessed xs modes guards)
changed_guess negates c xs ys modes guards M N A h = by_gain negates c.turns c.gain xs ys modes guards M N A h

-- ---- what is made of both parts, and does not depend on a power of two that both are multiplied by, is the same
module _ {A : Type 0} (f : Pair → A) (same : (j : ℕ) (p q : Pair) → Times j p.re q.re → Times j p.im q.im → f q ≡ f p) where
  abbrev of_parts : ModeGuess → A
  of_parts g = f (pair g.correlation.re g.correlation.im)

  abbrev PartsKept : ℕ → Option ModeGuess → Type 0
  PartsKept k (Some g) = of_parts (louder_guess k g) ≡ of_parts g
  PartsKept k None = Unit

  kept_given : (k : ℕ) (lent : A) (b : Option ModeGuess) → PartsKept k b → guess_given of_parts (Ok (louder k b)) lent ≡ guess_given of_parts (Ok b) lent
  kept_given k lent (Some g) h = h
  kept_given k lent None h = refl

  -- what is found is the guess at an offset, whose parts in ys are those in xs times 2 ^ (2 × k)
  kept_search : (negates turns : Bool) (g : ℕ) → suc g ≤ most → (xs ys : List Float) (modes guards : List ℕ) → all_in is_mode modes ≡ true
      → pairs_in (length xs) ≤ 1048576 → Wholes 1 xs → ChangedSamples negates turns (suc g) xs ys → PartsKept (suc g) (guessed xs modes guards)
  unfolding guess_at
  kept_search negates turns g K xs ys modes guards M N w h = search_keeps (PartsKept (suc g)) is_mode xs step modes guards M tt
    where
      at : (mode guard d : ℕ) → is_mode mode ≡ true → PartsKept (suc g) (Some (guess_at xs mode guard d))
      at mode guard d m =
          let c = gained_correlation negates turns g K xs ys N w h mode guard d m in
          let e = gained_kept negates turns g K xs ys N w h mode guard d m in
          let re = times_of (suc g) (guess_level step_level) _ _ c.re in
          let im = times_of (suc g) (guess_level step_level) _ _ c.im in
          ap of_parts (sym e.guess) ∙ same (2 * suc g) (correlation_at xs mode guard d) (correlation_at ys mode guard d) re im

      step : (mode guard : ℕ) → is_mode mode ≡ true → (b : Option ModeGuess) (d : ℕ) → PartsKept (suc g) b → PartsKept (suc g) (offered xs mode guard b d)
      step mode guard m b d H =
          let at_d = guess_at xs mode guard d in
          cond_keeps (PartsKept (suc g)) (le (energy_at xs mode guard d) (plus_zero binary64)) b _ H
          (cond_keeps (PartsKept (suc g)) (beats at_d b) (Some at_d) b (at mode guard d m) H)

  as_it_is : (b : Option ModeGuess) → PartsKept 0 b
  as_it_is (Some g) = refl
  as_it_is None = tt

  parts_kept : (negates turns : Bool) (gain : ℕ) (xs ys : List Float) (modes guards : List ℕ) → all_in is_mode modes ≡ true → pairs_in (length xs) ≤ 1048576
      → Allowed (sampled negates turns gain) 1 xs → ChangedSamples negates turns gain xs ys → PartsKept gain (guessed xs modes guards)
  parts_kept negates turns gain xs ys modes guards M N A =
      gain_cases (λ k. ChangedSamples negates turns k xs ys → PartsKept k (guessed xs modes guards)) gain A
      (λ h. as_it_is (guessed xs modes guards)) (λ g K w h. kept_search negates turns g K xs ys modes guards M N w h)

  pub changed_parts : (negates : Bool) (c : Change) (xs ys : List Float) (modes guards : List ℕ) → all_in is_mode modes ≡ true
      → pairs_in (length xs) ≤ 1048576 → Allowed (of_samples negates c) 1 xs → Changed (of_samples negates c) 1 (λ b. b) xs ys
      → (lent : A) → guess_given of_parts (Ok (guessed ys modes guards)) lent ≡ guess_given of_parts (Ok (guessed xs modes guards)) lent
  changed_parts negates c xs ys modes guards M N A h lent =
      ap (λ (b : Option ModeGuess). guess_given of_parts (Ok b) lent) (changed_guess negates c xs ys modes guards M N A h)
      ∙ kept_given c.gain lent (guessed xs modes guards) (parts_kept negates c.turns c.gain xs ys modes guards M N A h)
