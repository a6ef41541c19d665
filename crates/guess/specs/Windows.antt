-- The guess's sums at an offset, of two lists of as many samples. Where the products and energies of all samples n apart agree, so do the
-- sums; where those of one list are those of the other, amplified, so are its sums.
-- Assumes nothing.
use Rattle.std.specs.Prelude.{ℕ, ◌+◌, ◌-◌, ◌≤◌, ◌<◌, true, List, ◌≡◌, refl, T, length, Float}
use Rattle.std.proofs.Common.{sym, ap, ◌∙◌, arith}
use Rattle.std.specs.Float.{binary64}
use Rattle.std.specs.Float.Ieee.{fits}
use Rattle.ieee.specs.Levels.{Scaled}
use Rattle.complex.specs.Complex.{Pair, pair}
use Rattle.complex.specs.Gains.{BothScaled}
use Rattle.complex.specs.Changes.{most}
use Rattle.complex.specs.Bounds.{step_level, energy_level, guess_level, correlation_roomy, energy_roomy}
use Rattle.samples_needed.specs.Samples.{is_mode, fft_of, guard_of, symbol_of}
use Rattle.samples_needed.specs.Sizes.{large}
use Rattle.correlation.specs.Correlation.{pairs_in, lags_in, lag_product, lag_energy, real_prefixes, imaginary_prefixes, energy_prefixes}
use Rattle.correlation.specs.Windows.{guard_sum, sum_same, sum_gain, window_fits}
use Rattle.guess.specs.Guess.{correlation_at, energy_at}

-- ---- an offset's sums, by their terms
abbrev sum_at : ℕ → ℕ → ℕ → ℕ → (ℕ → Float) → Float
sum_at mode guard d floats t = guard_sum t (symbol_of mode guard) (guard_of mode guard) (pairs_in floats - fft_of mode) d

module _ (mode guard d floats : ℕ) (ys : List Float) (long : length ys ≡ floats) where
  correlation_is : correlation_at ys mode guard d
      ≡ pair (sum_at mode guard d floats (λ i. (lag_product (fft_of mode) ys i).re)) (sum_at mode guard d floats (λ i. (lag_product (fft_of mode) ys i).im))
  unfolding correlation_at real_prefixes imaginary_prefixes
  correlation_is =
      λ j. pair (sum_at mode guard d (long j) (λ i. (lag_product (fft_of mode) ys i).re))
      (sum_at mode guard d (long j) (λ i. (lag_product (fft_of mode) ys i).im))

  energy_is : energy_at ys mode guard d ≡ sum_at mode guard d floats (lag_energy (fft_of mode) ys)
  unfolding energy_at energy_prefixes
  energy_is = λ j. sum_at mode guard d (long j) (lag_energy (fft_of mode) ys)

module _ (xs ys : List Float) (long : length ys ≡ length xs) (mode guard d : ℕ) where
  abbrev n : ℕ
  n = fft_of mode

  -- equal terms
  pub correlation_same : ((i : ℕ) → i < lags_in n xs → lag_product n ys i ≡ lag_product n xs i)
      → correlation_at ys mode guard d ≡ correlation_at xs mode guard d
  correlation_same h =
      let of : (Pair → Float) → List Float → Float = λ part l. sum_at mode guard d (length xs) (λ i. part (lag_product n l i)) in
      let same : (part : Pair → Float) → of part ys ≡ of part xs = λ part. sum_same _ _ _ _ _ _ (λ i l. ap part (h i l)) in
      correlation_is mode guard d (length xs) ys long
      ∙ (λ j. pair (same (λ z. z.re) j) (same (λ z. z.im) j))
      ∙ sym (correlation_is mode guard d (length xs) xs refl)

  pub energy_same : ((i : ℕ) → i < lags_in n xs → lag_energy n ys i ≡ lag_energy n xs i)
      → energy_at ys mode guard d ≡ energy_at xs mode guard d
  energy_same h = energy_is mode guard d (length xs) ys long ∙ sum_same _ _ _ _ _ _ h ∙ sym (energy_is mode guard d (length xs) xs refl)

  -- amplified terms
  module _ (k : ℕ) (K : k ≤ most) (N : pairs_in (length xs) ≤ 1048576) (M : is_mode mode ≡ true) where
    few_lags : lags_in n xs ≤ 1048576
    few_lags = less (pairs_in (length xs)) n N
      where
        less : (p n : ℕ) → p ≤ 1048576 → p - n ≤ 1048576
        less p n l = omega arith

    long_symbol : 2048 ≤ symbol_of mode guard
    long_symbol = longer n (guard_of mode guard) (large mode M)
      where
        longer : (n l : ℕ) → 2048 ≤ n → 2048 ≤ n + l
        longer n l h = omega arith

    pub correlation_louder : ((i : ℕ) → i < lags_in n xs → BothScaled step_level k (lag_product n xs i) (lag_product n ys i))
        → BothScaled (guess_level step_level) k (correlation_at xs mode guard d) (correlation_at ys mode guard d)
    correlation_louder h =
        rw (correlation_is mode guard d (length xs) xs refl, correlation_is mode guard d (length xs) ys long)
        (record {
          re = sum_gain k K step_level correlation_roomy _ _ _ _ _ d few_lags long_symbol (λ i l. (h i l).re);
          im = sum_gain k K step_level correlation_roomy _ _ _ _ _ d few_lags long_symbol (λ i l. (h i l).im);
        })

    pub energy_louder : ((i : ℕ) → i < lags_in n xs → Scaled energy_level k (lag_energy n xs i) (lag_energy n ys i))
        → Scaled (guess_level energy_level) k (energy_at xs mode guard d) (energy_at ys mode guard d)
    energy_louder h =
        rw (energy_is mode guard d (length xs) xs refl, energy_is mode guard d (length xs) ys long)
        (sum_gain k K energy_level energy_roomy _ _ _ _ _ d few_lags long_symbol h)

-- both parts are sums that start at +0.0, so f64 values
pub correlation_fits : (xs : List Float) (mode guard d : ℕ)
    → T (fits binary64 (correlation_at xs mode guard d).re) × T (fits binary64 (correlation_at xs mode guard d).im)
unfolding correlation_at
correlation_fits xs mode guard d = (window_fits _ _ _, window_fits _ _ _)
