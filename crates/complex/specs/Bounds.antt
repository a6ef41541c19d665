-- The bounds of document 01, stated once. Spectra and samples have whole-number parts from -32,768 to 32,768, the gain is 2 ^ k with k up to 8,
-- there are at most 1,024 spectra and 1,048,576 samples. A level is given for each place of the ratio, of the guess and of the pilot phase,
-- and for each a law with no test left to make. A gain beyond the bound is refused where a level is no longer roomy.
-- Assumes nothing.
use Rattle.std.specs.Prelude.{◌≡◌, ℕ, zero, suc, ◌*◌, ◌≤◌, T, ◌⊎◌, List, length, refl, Float}
use Rattle.std.proofs.Common.{inl, inr, sym, subst, arith, lit<, lit≤}
use Rattle.std.specs.Float.{Format, binary64}
use Rattle.std.specs.Float.Ieee.{binary32, size, add, sub, mul, div, lt, of_bits}
use Rattle.ieee.specs.Constants.{plus_zero, plus_zero_is, half}
use Rattle.ieee.specs.Levels as Levels
use Rattle.ieee.specs.Levels.{Level, Scaled, wholes, constant, many, roomy}
use Rattle.ieee.specs.Gain.{roomy_one, within_scaled, gained, times_scaled, plus_scaled, minus_scaled, one_scaled, zero_scaled, constant_scaled, times_of}
use Rattle.ieee.specs.Sums.{total, prefixes, Each, total_scaled, prefixes_scaled}
use Rattle.ieee.specs.Times.{lt_times, quotient_times}
use Rattle.complex.specs.Changes.{most, WholePair, amplified}
use Rattle.complex.specs.Complex.{Pair, pair, product, conjugate, squared_size, scaled, norm32, norm64}
use Rattle.complex.specs.Gains.{BothScaled, two_products, norm_level, product_scaled, size_scaled, conjugate_scaled}
use Rattle.complex.specs.Gains.{factor_scaled, norm32_scaled, norm64_scaled}
use Rattle.complex.specs.Totals.{totals, totals_scaled}

-- +0.0 is at every level
zero_at : (f : Format) (l : Level) (k : ℕ) → Scaled l k (plus_zero f) (plus_zero f)
zero_at f l k = subst (λ (z : Float). Scaled l k z z) (sym (plus_zero_is f)) (zero_scaled k l _)

abbrev pub origin : Format → Pair
origin f = pair (plus_zero f) (plus_zero f)

origin_at : (f : Format) (l : Level) (k : ℕ) → BothScaled l k (origin f) (origin f)
origin_at f l k = record { re = zero_at f l k; im = zero_at f l k }

-- above +0.0 or not is the same of both
pub above_zero_gain : (f : Format) (l : Level) (k : ℕ) (x y : Float) → Scaled l k x y → lt (plus_zero f) x ≡ lt (plus_zero f) y
above_zero_gain f l k x y h = lt_times (l.power * k) _ _ x y (times_of k l _ _ (zero_at f l k)) (times_of k l x y h)

-- ---- a gain that may be spoken of: none, or one up to 256 where W holds. What holds of both holds of it
pub gain_cases : {W : Type 0} (P : ℕ → Type 0) (k : ℕ) → (k ≡ 0) ⊎ ((k ≤ most) × W) → P 0 → ((j : ℕ) → suc j ≤ most → W → P (suc j)) → P k
gain_cases P zero A none some = none
gain_cases P (suc j) A none some = elim A [ inl z ↦ absurd (omega arith) | inr w ↦ some j w.0 w.1 ]

-- ---- the parts of spectra and samples
abbrev pub part_level : Level
part_level = wholes 15

module _ (k : ℕ) (K : k ≤ most) where
  pub part_gain : (x : Pair) → WholePair x → BothScaled part_level k x (amplified k x)
  part_gain x h = record { re = gained binary32 most k 15 x.re K tt (lit< tt) h.re; im = gained binary32 most k 15 x.im K tt (lit< tt) h.im }

-- ---- a bin's ratio: products of neighbouring values, the sums of their squares and of their squared sizes, a norm, a quotient
abbrev pub step_level : Level
step_level = two_products part_level part_level

abbrev pub term_level : Level
term_level = two_products step_level step_level

abbrev pub bin_level : Level
bin_level = many 1024 term_level

module _ (k : ℕ) (K : k ≤ most) where
  pub step_gain : (x y u v : Pair) → BothScaled part_level k x y → BothScaled part_level k u v
      → BothScaled step_level k (product binary32 x (conjugate u)) (product binary32 y (conjugate v))
  step_gain x y u v h g = product_scaled binary32 most k K part_level part_level _ _ _ _ tt h (conjugate_scaled k part_level u v g)

  pub square_gain : (p q : Pair) → BothScaled step_level k p q → BothScaled term_level k (product binary32 p p) (product binary32 q q)
  square_gain p q h = product_scaled binary32 most k K step_level step_level _ _ _ _ tt h h

  pub size_gain : (p q : Pair) → BothScaled step_level k p q → Scaled term_level k (squared_size binary32 p) (squared_size binary32 q)
  size_gain p q h = size_scaled binary32 most k K step_level p q tt h

  pub bin_sum_gain : (xs ys : List Pair) → length xs ≤ 1024 → Each (BothScaled term_level k) xs ys
      → BothScaled bin_level k (totals binary32 (origin binary32) xs) (totals binary32 (origin binary32) ys)
  bin_sum_gain xs ys N h = totals_scaled binary32 most k 0 1024 term_level _ _ xs ys K tt (omega arith) (origin_at binary32 (many 0 term_level) k) h

  pub bin_energy_gain : (xs ys : List Float) → length xs ≤ 1024 → Each (Scaled term_level k) xs ys
      → Scaled bin_level k (total binary32 (plus_zero binary32) xs) (total binary32 (plus_zero binary32) ys)
  bin_energy_gain xs ys N h = total_scaled binary32 most k 0 1024 term_level _ _ xs ys K tt (omega arith) (zero_at binary32 (many 0 term_level) k) h

  -- the quotient is the same bit for bit
  pub ratio_gain : (x y : Pair) (d e : Float) → BothScaled bin_level k x y → Scaled bin_level k d e → div binary32 (norm32 x) d ≡ div binary32 (norm32 y) e
  unfolding size
  ratio_gain x y d e h g =
      quotient_times binary32 (4 * k) _ _ d e (times_of k (norm_level binary32 bin_level) _ _ (norm32_scaled most k bin_level x y K tt h tt))
      (times_of k bin_level d e g)

-- ---- the guess: products a symbol apart and halved energies in f64, prefix sums, their differences, a norm, a quotient
abbrev pub energy_level : Level
energy_level = Levels.product (many 2 step_level) (constant 1 1)

-- l is the level of a term; up to 1,048,576 of them in a prefix sum, and up to 512 differences of two prefix sums
abbrev pub prefix_level : Level → Level
prefix_level l = many 1048576 l

abbrev pub guess_level : Level → Level
guess_level l = many 512 (many 2 (prefix_level l))

-- the summed correlation by its number of digits, so that its square has few
abbrev pub correlation_level : Level
correlation_level = record { unit = 0; most = 1; digits = 61; power = 2 }

module _ (k : ℕ) (K : k ≤ most) where
  half_at : Scaled (constant 1 1) k half half
  unfolding of_bits
  half_at = constant_scaled k 1 1 _ half (refl, refl)

  -- half of the squared sizes of two samples, added in f32
  pub energy_gain : (x y u v : Pair) → BothScaled part_level k x y → BothScaled part_level k u v
      → Scaled energy_level k (mul binary64 (add binary32 (squared_size binary32 x) (squared_size binary32 u)) half)
      (mul binary64 (add binary32 (squared_size binary32 y) (squared_size binary32 v)) half)
  energy_gain x y u v h g =
      let s : (x y : Pair) → BothScaled part_level k x y → Scaled (many 1 step_level) k (squared_size binary32 x) (squared_size binary32 y) =
      λ x y h. one_scaled k step_level _ _ (size_scaled binary32 most k K part_level x y tt h) in
      times_scaled binary64 most k (many 2 step_level) (constant 1 1) _ _ half half K tt
      (plus_scaled binary32 most k 1 1 step_level _ _ _ _ K tt (s x y h) (s u v g)) half_at

  pub correlation_gain : (x y : Pair) → BothScaled (guess_level step_level) k x y → Scaled (norm_level binary64 correlation_level) k (norm64 x) (norm64 y)
  correlation_gain x y h =
      let n : (a b : Float) → Scaled (guess_level step_level) k a b → Scaled correlation_level k a b =
      λ a b g. within_scaled k (guess_level step_level) correlation_level a b tt g in
      norm64_scaled most k correlation_level x y K tt (record { re = n _ _ h.re; im = n _ _ h.im })

  pub metric_gain : (x y : Pair) (d e : Float) → BothScaled (guess_level step_level) k x y → Scaled (guess_level energy_level) k d e
      → div binary64 (norm64 x) d ≡ div binary64 (norm64 y) e
  metric_gain x y d e h g =
      quotient_times binary64 (2 * k) _ _ d e (times_of k (norm_level binary64 correlation_level) _ _ (correlation_gain x y h))
      (times_of k (guess_level energy_level) d e g)

  -- for either term, the correlation's parts or the energy
  module _ (l : Level) (R : T (roomy binary64 most (guess_level l))) where
    R2 : T (roomy binary64 most (many 2 (prefix_level l)))
    R2 = roomy_one binary64 most 512 (many 2 (prefix_level l)) (lit≤ tt) R

    pub prefix_gain : (xs ys : List Float) → length xs ≤ 1048576 → Each (Scaled l k) xs ys
        → Each (Scaled (prefix_level l) k) (prefixes binary64 (plus_zero binary64) xs) (prefixes binary64 (plus_zero binary64) ys)
    prefix_gain xs ys N h =
        prefixes_scaled binary64 most k 0 1048576 l _ _ xs ys K (roomy_one binary64 most 2 (prefix_level l) (lit≤ tt) R2) (omega arith)
        (zero_at binary64 (many 0 l) k) h

    pub difference_gain : (x y u v : Float) → Scaled (prefix_level l) k x y → Scaled (prefix_level l) k u v
        → Scaled (many 2 (prefix_level l)) k (sub binary64 x u) (sub binary64 y v)
    difference_gain x y u v h g =
        minus_scaled binary64 most k 1 1 (prefix_level l) x y u v K R2 (one_scaled k (prefix_level l) x y h) (one_scaled k (prefix_level l) u v g)

    pub guess_sum_gain : (xs ys : List Float) → length xs ≤ 512 → Each (Scaled (many 2 (prefix_level l)) k) xs ys
        → Scaled (guess_level l) k (total binary64 (plus_zero binary64) xs) (total binary64 (plus_zero binary64) ys)
    guess_sum_gain xs ys N h =
        total_scaled binary64 most k 0 512 (many 2 (prefix_level l)) _ _ xs ys K R (omega arith) (zero_at binary64 (many 0 (many 2 (prefix_level l))) k) h

-- ---- the pilot phase: values times ±4/3, products of neighbouring pilots, their sum, the sum of products of their norms, a quotient
-- 4/3 as f32 is 11,184,811 units of 2 ^ -23
abbrev pub pilot_level : Level
pilot_level = record { unit = 23; most = 1; digits = 39; power = 1 }

abbrev pub pilot_step_level : Level
pilot_step_level = two_products pilot_level pilot_level

abbrev pub pilot_energy_level : Level
pilot_energy_level = Levels.product (norm_level binary32 pilot_level) (norm_level binary32 pilot_level)

module _ (k : ℕ) (K : k ≤ most) where
  -- r is +4/3 or -4/3
  pub pilot_gain : (x y : Pair) (r : Float) → Scaled (constant 23 11184811) k r r → BothScaled part_level k x y
      → BothScaled pilot_level k (scaled binary32 x r) (scaled binary32 y r)
  pilot_gain x y r c h =
      let w : (a b : Float) → Scaled (Levels.product part_level (constant 23 11184811)) k a b → Scaled pilot_level k a b =
      λ a b g. within_scaled k (Levels.product part_level (constant 23 11184811)) pilot_level a b tt g in
      let g = factor_scaled binary32 most k K part_level (constant 23 11184811) x y r r tt h c in
      record { re = w _ _ g.re; im = w _ _ g.im }

  pub pilot_step_gain : (x y u v : Pair) → BothScaled pilot_level k x y → BothScaled pilot_level k u v
      → BothScaled pilot_step_level k (product binary32 x (conjugate u)) (product binary32 y (conjugate v))
  pilot_step_gain x y u v h g = product_scaled binary32 most k K pilot_level pilot_level _ _ _ _ tt h (conjugate_scaled k pilot_level u v g)

  pub pilot_energy_gain : (x y u v : Pair) → BothScaled pilot_level k x y → BothScaled pilot_level k u v
      → Scaled pilot_energy_level k (mul binary32 (norm32 x) (norm32 u)) (mul binary32 (norm32 y) (norm32 v))
  unfolding size
  pilot_energy_gain x y u v h g =
      let n : (x y : Pair) → BothScaled pilot_level k x y → Scaled (norm_level binary32 pilot_level) k (norm32 x) (norm32 y) =
      λ x y h. norm32_scaled most k pilot_level x y K tt h tt in
      times_scaled binary32 most k (norm_level binary32 pilot_level) (norm_level binary32 pilot_level) _ _ _ _ K tt (n x y h) (n u v g)

  -- up to 512 pairs of pilots: there are 467 in mode 3, all segments coherent
  pub pilot_sum_gain : (xs ys : List Pair) → length xs ≤ 512 → Each (BothScaled pilot_step_level k) xs ys
      → BothScaled (many 512 pilot_step_level) k (totals binary32 (origin binary32) xs) (totals binary32 (origin binary32) ys)
  pilot_sum_gain xs ys N h = totals_scaled binary32 most k 0 512 pilot_step_level _ _ xs ys K tt (omega arith)
      (origin_at binary32 (many 0 pilot_step_level) k) h

  pub pilot_energy_sum_gain : (xs ys : List Float) → length xs ≤ 512 → Each (Scaled pilot_energy_level k) xs ys
      → Scaled (many 512 pilot_energy_level) k (total binary32 (plus_zero binary32) xs) (total binary32 (plus_zero binary32) ys)
  unfolding size
  pilot_energy_sum_gain xs ys N h =
      total_scaled binary32 most k 0 512 pilot_energy_level _ _ xs ys K tt (omega arith) (zero_at binary32 (many 0 pilot_energy_level) k) h

  -- the metric of a phase is the same bit for bit
  pub pilot_quotient_gain : (x y d e : Float) → Scaled (many 512 pilot_step_level) k x y → Scaled (many 512 pilot_energy_level) k d e
      → div binary32 x d ≡ div binary32 y e
  pilot_quotient_gain x y d e h g =
      quotient_times binary32 (2 * k) x y d e (times_of k (many 512 pilot_step_level) x y h) (times_of k (many 512 pilot_energy_level) d e g)

-- both terms of the guess have room
pub correlation_roomy : T (roomy binary64 most (guess_level step_level))
correlation_roomy = tt

pub energy_roomy : T (roomy binary64 most (guess_level energy_level))
energy_roomy = tt
