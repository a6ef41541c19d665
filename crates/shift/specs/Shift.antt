-- The shift (acquire.rs, `integer_cfo`; document 01, "Ratios, shift and kinds"): the pattern of AC1 carriers and the edge is laid over the
-- ratios at every shift from -bound to bound, and the greatest sum wins.
-- Definitions only.
use Rattle.params.specs.declared.Refusal.{Refusal}
use Rattle.params.specs.declared.Refusal.TheVariants.{BadMode}
use Rattle.std.specs.Prelude.{ℕ, suc, ◌+◌, ◌-◌, ◌*◌, ◌/◌, ◌%◌, cond, List, [], ◌∷◌, ◌++◌, map, ◌≡◌, eqb, leb, ℤ, pos, negsuc}
use Rattle.std.specs.Prelude.{get_or, length, Float, Option, Some, None, Result, Err}
use Rattle.std.specs.Float.{nan, binary32}
use Rattle.std.specs.Float.Ieee.{minus, lt, div, of_int}
use Rattle.ieee.specs.Constants.{minus_zero, lowest}
use Rattle.ieee.specs.Sums.{total}
use Rattle.lists.specs.Lists.{range, joined}
use Rattle.lists.specs.Refusals.{unless}
use Rattle.params.specs.declared.Mode.{Mode}
use Rattle.params.specs.declared.SegmentKind.TheVariants.{Coherent}
use Rattle.params.specs.Params.{fft_size, carriers_per_segment, total_carriers, code_of, answered}
use Rattle.tables.specs.Places.{ac1_of}
use Rattle.ofdm.specs.Band.{place_of, bin_of}
use Rattle.ratio.specs.Ratio.{bin_ratios, metric_code}
use Rattle.shift.specs.declared.FoundShift.{FoundShift}

-- ---- the pattern: AC1 places by segment number 0 to 12, then the edge, as bins
unfoldable pub pattern_carriers : Mode → List ℕ
pattern_carriers mode =
    joined (λ seg. map (λ p. place_of seg * carriers_per_segment mode + p) (ac1_of mode Coherent seg)) (range 13) ++ ((total_carriers mode - 1) ∷ [])

unfoldable pub pattern : Mode → List ℕ
pattern mode = map (bin_of mode) (pattern_carriers mode)

-- ---- a shift's sum and score, of any list of bins among n
-- bin b moved by z, mod n; below zero, n - 1 for each step down
abbrev pub moved_bin : ℕ → ℕ → ℤ → ℕ
moved_bin n b (pos k) = (b + k) % n
moved_bin n b (negsuc k) = (b + suc k * (n - 1)) % n

unfoldable pub sum_at : ℕ → List ℕ → List Float → ℤ → Float
sum_at n bins ratios z = total binary32 minus_zero (map (λ b. get_or ratios (moved_bin n b z) nan) bins)

-- a sum, divided by the number of the bins
unfoldable pub score_of : List ℕ → Float → Float
score_of bins sum = div binary32 sum (of_int binary32 (pos (length bins)))

-- ---- the search: only a greater sum replaces
pub record Winner : Type 0 where
  pub shift : ℤ
  pub sum : Float

abbrev pub winner : ℤ → Float → Winner
winner z s = record { shift = z; sum = s }

unfoldable pub searched : (ℤ → Float) → Winner → List ℤ → Winner
searched f w [] = w
searched f w (z ∷ zs) = searched f (cond (lt w.sum (f z)) (winner z (f z)) w) zs

-- from -bound to bound
unfoldable pub shifts : ℕ → List ℤ
shifts bound = map (λ j. minus j bound) (range (2 * bound + 1))

-- the winner among the shifts of these bins; with every sum NaN it stays at shift 0 and `f32::MIN`
unfoldable pub best_shift : ℕ → List ℕ → ℕ → List Float → Winner
best_shift n bins bound ratios = searched (sum_at n bins ratios) (winner (pos 0) lowest) (shifts bound)

-- what a winner tells
abbrev pub found_of : List ℕ → Winner → FoundShift
found_of bins w = record { shift = w.shift; score = score_of bins w.sum }

-- ---- the operation: 1; 5 unless whole spectra, at most 1,024; 6 if none; 7 unless n ratios; 8 for a bound above n/2
unfoldable pub shift_code : Option Mode → ℕ → ℕ → ℕ → ℕ
shift_code None floats room bound = 1
shift_code (Some m) floats room bound = metric_code (fft_size m) floats room (unless (leb bound (fft_size m / 2)) 8 0)

-- the lent ratios at exit
unfoldable pub shift_leaves : Option Mode → List Float → ℕ → List Float → List Float
shift_leaves None xs bound old = old
shift_leaves (Some m) xs bound old = cond (eqb (shift_code (Some m) (length xs) (length old) bound) 0) (bin_ratios (fft_size m) xs) old

-- the answer
unfoldable pub shift_answer : Option Mode → List Float → ℕ → ℕ → Result FoundShift Refusal
shift_answer None xs bound room = Err BadMode
shift_answer (Some m) xs bound room =
    let w = best_shift (fft_size m) (pattern m) bound (bin_ratios (fft_size m) xs) in
    answered (shift_code (Some m) (length xs) room bound) (found_of (pattern m) w)

pub record Shifted (mode : Option Mode) (xs : List Float) (bound : ℕ) (old : List Float) (r : Result FoundShift Refusal) (now : List Float) : Type 0 where
  pub number : code_of r ≡ shift_code mode (length xs) (length old) bound
  pub answer : r ≡ shift_answer mode xs bound (length old)
  pub leaves : now ≡ shift_leaves mode xs bound old
