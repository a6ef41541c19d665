-- A bin's ratio (acquire.rs, `continual_metric`), from the list of the bin's pairs in symbol order: |Σ p²| / Σ |p|², where p is the product
-- of a pair and the conjugate of the one before it. Continual carriers give about 1. 0.0 where the energy is not above 0.
-- Definitions only.
use Rattle.std.specs.Prelude.{ℕ, Bool, cond, List, [], ◌∷◌, map, ◌≡◌, eqb, length, Float, Result}
use Rattle.std.specs.Float.{binary32}
use Rattle.std.specs.Float.Ieee.{div, lt}
use Rattle.ieee.specs.Constants.{plus_zero}
use Rattle.ieee.specs.Sums.{total}
use Rattle.lists.specs.Lists.{up_to}
use Rattle.lists.specs.Refusals.{unless}
use Rattle.params.specs.declared.Refusal.{Refusal}
use Rattle.params.specs.Params.{code_of, answered}
use Rattle.complex.specs.Complex.{Pair, pair, product, conjugate, squared_size, norm32}
use Rattle.complex.specs.Totals.{totals}
use Rattle.spectra.specs.Spectra.{bin_pairs, spectra_code}

-- each pair after y, times the conjugate of the one before it
unfoldable pub steps_from : Pair → List Pair → List Pair
steps_from y [] = []
steps_from y (x ∷ xs) = product binary32 x (conjugate y) ∷ steps_from x xs

unfoldable pub steps : List Pair → List Pair
steps [] = []
steps (x ∷ xs) = steps_from x xs

abbrev pub square_of : Pair → Pair
square_of p = product binary32 p p

abbrev pub size_of : Pair → Float
size_of p = squared_size binary32 p

-- Σ p² and Σ |p|²
unfoldable pub correlation : List Pair → Pair
correlation xs = totals binary32 (pair (plus_zero binary32) (plus_zero binary32)) (map square_of (steps xs))

unfoldable pub energy : List Pair → Float
energy xs = total binary32 (plus_zero binary32) (map size_of (steps xs))

-- an energy above zero; a NaN is not
abbrev pub above_zero : Float → Bool
above_zero d = lt (plus_zero binary32) d

-- n / d where d is above zero, and 0.0 elsewhere
abbrev pub guarded : Float → Float → Float
guarded n d = cond (above_zero d) (div binary32 n d) (plus_zero binary32)

unfoldable pub ratio_of : List Pair → Float
ratio_of xs = guarded (norm32 (correlation xs)) (energy xs)

-- the ratio of every bin of spectra of len pairs
unfoldable pub bin_ratios : ℕ → List Float → List Float
bin_ratios len xs = up_to (λ b. ratio_of (bin_pairs len xs b)) len

-- ---- one bin (document 02, ask 2): its pairs lie one behind another in symbol order, as spectra of one bin do, and are refused as those are: 5
-- for an odd length or over 1,024 pairs; 6 for none
abbrev pub bin_ratio_code : ℕ → ℕ
bin_ratio_code floats = spectra_code 1 floats 0

unfoldable pub bin_ratio_answer : List Float → Result Float Refusal
bin_ratio_answer xs = answered (bin_ratio_code (length xs)) (ratio_of (bin_pairs 1 xs 0))

pub record BinRatioTold (xs : List Float) (r : Result Float Refusal) : Type 0 where
  pub number : code_of r ≡ bin_ratio_code (length xs)
  pub answer : r ≡ bin_ratio_answer xs

-- ---- the operation on spectra, with later tests behind: 5 unless whole spectra of len pairs, at most 1,024; 6 if none; 7 unless len ratios
abbrev pub metric_code : ℕ → ℕ → ℕ → ℕ → ℕ
metric_code len floats room later = spectra_code len floats (unless (eqb room len) 7 later)

-- the lent ratios at exit
unfoldable pub metric_leaves : ℕ → List Float → List Float → List Float
metric_leaves len xs old = cond (eqb (metric_code len (length xs) (length old) 0) 0) (bin_ratios len xs) old

pub record MetricTaken (len : ℕ) (xs old : List Float) (r : ℕ) (now : List Float) : Type 0 where
  pub code : r ≡ metric_code len (length xs) (length old) 0
  pub leaves : now ≡ metric_leaves len xs old
