-- What the search for the shift ends with, for any list of bins among n. No shift of the range has a greater sum than the winner. Equal sums keep
-- the most negative: of two shifts whose sums over the ratios of spectra are equal numbers, the less negative never wins. Whatever the ratios, a
-- winner whose sum is above `f32::MIN`, from which the search starts, is at or below the sum of no more negative shift, so that such a sum is less
-- or a NaN. Where every sum is a NaN the answer stays where the search starts, at shift 0 and `f32::MIN`.
-- This is of sums. Scores are sums divided, and may tie where sums do not: in mode 1 the sums 14 + 2^-20 and 14 + 2^-19 both give the score
-- 0x3f04bda2, and the greater sum wins.
-- The pattern has 27, 53 and 105 bins in modes 1, 2 and 3. An answer has the number that its refusals decide, and an accepted
-- call tells the winner and leaves the ratios, each of which is what `bin_ratio` answers for its bin (`shift_each`).
-- Assumes nothing.
use Rattle.params.specs.declared.Refusal.{Refusal}
use Rattle.std.specs.Prelude.{ℕ, ◌+◌, ◌*◌, ◌/◌, ◌<◌, leb, true, List, ◌≡◌, refl, pos, length, Option, Some, None, Result, Ok}
use Rattle.std.proofs.Math.Bool.{false}
use Rattle.std.proofs.Math.Logic.{inl, inr}
use Rattle.std.proofs.Math.Path.{sym, ap}
use Rattle.std.proofs.Common.{◌∙◌, subst, arith, lit≤}
use Rattle.std.proofs.Math.Dec.{T}
use Rattle.std.proofs.Math.IntN.{ℤ}
use Rattle.std.specs.Float.Ieee.{Float, minus, lt, le, is_nan}
use Rattle.lists.specs.Refusals.{unless_most}
use Rattle.params.specs.Laws.{answered_code}
use Rattle.ieee.specs.Constants.{lowest}
use Rattle.ieee.specs.Numbers.{same_bool}
use Rattle.ieee.specs.Order.{le_self}
use Rattle.params.specs.declared.Mode.{Mode}
use Rattle.params.specs.declared.Mode.TheVariants.{M1, M2, M3}
use Rattle.params.specs.Params.{fft_size, code_of}
use Rattle.shift.specs.declared.FoundShift.{FoundShift}
use Rattle.ratio.specs.Ratio.{bin_ratios}
use Rattle.ratio.specs.Codes.{accepted, code_most}
use Rattle.ratio.specs.EachBin.{EachBin, each_bin}
use Rattle.shift.specs.Shift.{winner, sum_at, best_shift, found_of, pattern_carriers, pattern, shift_code, shift_leaves, shift_answer, Shifted}
use Rattle.shift.specs.Searches.{found_kind, found_most, found_first, found_nan}
use Rattle.shift.specs.Moved.{Laid, ratios_no_minus, sum_above}

-- ---- the winner. Shift number j is j - bound, so the smaller of two numbers is the more negative shift.
module _ (n : ℕ) (bins : List ℕ) (bound : ℕ) where
  -- no shift of the range has a greater sum than the winner
  pub none_greater : (ratios : List Float) (j : ℕ) → j < 2 * bound + 1
      → lt (best_shift n bins bound ratios).sum (sum_at n bins ratios (minus j bound)) ≡ false
  unfolding best_shift
  none_greater ratios j h = same_bool _ false (found_most (sum_at n bins ratios) bound j h) (λ t. absurd t)

  -- equal sums keep the most negative: where the winner's sum is above `f32::MIN`, it is at or below the sum of no more negative shift
  pub most_negative : (ratios : List Float) (i j : ℕ) → i < j
      → (best_shift n bins bound ratios).shift ≡ minus j bound → T (lt lowest (best_shift n bins bound ratios).sum)
      → le (best_shift n bins bound ratios).sum (sum_at n bins ratios (minus i bound)) ≡ false
  unfolding best_shift
  most_negative ratios i j l e g = same_bool _ false (found_first (sum_at n bins ratios) bound i j l e g) (λ t. absurd t)

  -- so of two shifts of spectra with equal sums, and no NaN, the less negative never wins
  pub equal_sums : Laid n bins → (xs : List Float) (i j : ℕ) → i < j → j < 2 * bound + 1
      → let sum : ℤ → Float = sum_at n bins (bin_ratios n xs) in
      sum (minus i bound) ≡ sum (minus j bound) → is_nan (sum (minus i bound)) ≡ false
      → (best_shift n bins bound (bin_ratios n xs)).shift ≡ minus j bound → ⊥
  unfolding best_shift
  equal_sums laid xs i j l h same number won =
      let sum : ℤ → Float = sum_at n bins (bin_ratios n xs) in
      elim (found_kind sum bound) [
        | inl start ↦
            found_most sum bound i (omega arith)
            (subst (λ w. T (lt w.sum (sum (minus i bound)))) (sym start) (sum_above n bins laid _ (minus i bound) (ratios_no_minus n xs) number))
        | inr p ↦
            let own : sum (minus i bound) ≡ (best_shift n bins bound (bin_ratios n xs)).sum = same ∙ sym (p.1 ∙ ap sum won) in
            found_first sum bound i j l won p.0 (subst (λ x. T (le x (sum (minus i bound)))) own (le_self _ number))
      ]

  -- with every sum a NaN the answer stays where the search starts: shift 0 and `f32::MIN`
  pub all_nan : (ratios : List Float) → ((j : ℕ) → j < 2 * bound + 1 → is_nan (sum_at n bins ratios (minus j bound)) ≡ true)
      → best_shift n bins bound ratios ≡ winner (pos 0) lowest
  unfolding best_shift
  all_nan ratios = found_nan (sum_at n bins ratios) bound

-- ---- the answer's number
pub shift_number_lem : (mode : Option Mode) (xs : List Float) (bound room : ℕ)
    → code_of (shift_answer mode xs bound room) ≡ shift_code mode (length xs) room bound
unfolding shift_answer shift_code
shift_number_lem None xs bound room = refl
shift_number_lem (Some m) xs bound room =
    answered_code (shift_code (Some m) (length xs) room bound) _
    (code_most (fft_size m) (length xs) room _ (unless_most (leb bound (fft_size m / 2)) 8 0 11 (lit≤ tt) (lit≤ tt)))

-- what an accepted call answers, and what it leaves
module _ (m : Mode) (xs old : List Float) (bound : ℕ) (accepted : shift_code (Some m) (length xs) (length old) bound ≡ 0) where
  pub accepted_answer : shift_answer (Some m) xs bound (length old)
      ≡ Ok (found_of (pattern m) (best_shift (fft_size m) (pattern m) bound (bin_ratios (fft_size m) xs)))
  unfolding shift_answer
  accepted_answer = rw accepted

  pub accepted_leaves : shift_leaves (Some m) xs bound old ≡ bin_ratios (fft_size m) xs
  unfolding shift_leaves
  accepted_leaves = rw accepted

-- each ratio that an accepted call leaves is what `bin_ratio` answers for that bin's pairs laid one behind another
pub shift_each : (m : Mode) (xs : List Float) (bound : ℕ) (old : List Float) (r : Result FoundShift Refusal) (now : List Float)
    → Shifted (Some m) xs bound old r now → code_of r ≡ 0 → EachBin (fft_size m) xs now
unfolding shift_code
shift_each m xs bound old r now h z =
    let none : shift_code (Some m) (length xs) (length old) bound ≡ 0 = sym h.number ∙ z in
    let a = accepted (fft_size m) (length xs) (length old) _ none in
    rw (h.leaves, accepted_leaves m xs old bound none) (each_bin (fft_size m) xs a.some a.few)

-- ---- the pattern
abbrev pub pattern_bins : Mode → ℕ
pattern_bins M1 = 27
pattern_bins M2 = 53
pattern_bins M3 = 105

pub pattern_bins_lem : (mode : Mode) → length (pattern mode) ≡ pattern_bins mode
unfolding pattern pattern_carriers
pattern_bins_lem M1 = refl
pattern_bins_lem M2 = refl
pattern_bins_lem M3 = refl
