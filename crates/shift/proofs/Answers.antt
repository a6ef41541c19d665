-- What `integer_cfo` returns: each refusal, and the winner's shift and score.
-- Assumes nothing.
use Rattle.params.specs.declared.Refusal.{Refusal}
use Rattle.std.proofs.Common.{Option, Some, None, Result, Ok, Err}
use Prim.Native.Nat.{ℕ, ◌+◌, ◌*◌, ◌/◌, ◌<◌, ◌≤◌}
use mathlib.Core.List.{List}
use mathlib.Core.Path.{◌≡◌, ap, ◌∙◌}
use native.Mathlib.Omega.{arith}
use borrow.Author.Tests.{ne_eqb}
use lib.IntN.{ℤ, pos}
use lib.ListN.{length}
use lib.Ieee.{Float, binary32, minus, div, of_int}
use Rattle.params.specs.declared.Mode.{Mode}
use Rattle.params.specs.declared.Refusal.TheVariants.{BadMode}
use Rattle.params.specs.Params.{fft_size, refusal_number, code_of}
use Rattle.params.specs.Laws.{sized, refused_again, some_number}
use Rattle.shift.specs.declared.FoundShift.{FoundShift}
use Rattle.ratio.specs.Ratio.{bin_ratios}
use Rattle.ratio.specs.Codes.{ratios_length}
use Rattle.shift.specs.declared.Best.{Best}
use Rattle.shift.specs.Shift.{pattern, score_of, winner, best_shift, shift_code, shift_leaves, shift_answer, Shifted}
use Rattle.shift.specs.Facts.{shift_number_lem}
use Rattle.shift.specs.Inner.{Bounded, BestFound}
use Rattle.shift.proofs.Segments.{pattern_inside}

-- ---- the sizes
pub mode_bins : (m : Mode) (n : ℕ) → n ≡ fft_size m → (0 < n) × (n ≤ 8192)
mode_bins m n e = omega (arith, (sized m).band, (sized m).within, (sized m).fft_high)

pub shift_small : (m : Mode) (n at bound : ℕ) → n ≡ fft_size m → bound ≤ n / 2 → at ≤ 2 * bound → at + bound < 16777216
shift_small m n at bound size h i = omega (arith, mode_bins m n size)

pub searchable : (m : Mode) (xs now : List Float) (bins : List ℕ) (n bound : ℕ) → n ≡ fft_size m → now ≡ bin_ratios n xs → bins ≡ pattern m
    → bound ≤ n / 2 → Bounded bins (length now) bound
searchable m xs now bins n bound size left are h =
    let all : length now ≡ n = rw left (ratios_length n xs) in
    let sizes = mode_bins m n size in
    record { inside = rw (are, all, size) (pattern_inside m); some = omega arith; few = omega arith; within = omega arith }

-- ---- the search's winner is the definition's
best_is : (m : Mode) (xs now : List Float) (bins : List ℕ) (n bound : ℕ) (best : Best) → n ≡ fft_size m → now ≡ bin_ratios n xs → bins ≡ pattern m
    → BestFound bins now bound best
    → winner (minus best.at bound) best.sum ≡ best_shift (fft_size m) (pattern m) bound (bin_ratios (fft_size m) xs)
best_is m xs now bins n bound best size left are found = found.wins ∙ rw (left, ratios_length n xs, size, are)

-- ---- the returns
module _ (number : Option Mode) (xs old : List Float) (bound : ℕ) where
  -- the answer's number follows from the answer
  shifted : (r : Result FoundShift Refusal) (now : List Float) → r ≡ shift_answer number xs bound (length old) → now ≡ shift_leaves number xs bound old
      → Shifted number xs bound old r now
  shifted r now a l = record { number = ap code_of a ∙ shift_number_lem number xs bound (length old); answer = a; leaves = l }

  pub bad_mode : number ≡ None → Shifted number xs bound old (Err BadMode) old
  unfolding shift_answer shift_leaves
  bad_mode e = shifted _ _ (rw e) (rw e)

  module _ (m : Mode) (known : number ≡ Some m) where
    pub refused : (r : Refusal) → shift_code (Some m) (length xs) (length old) bound ≡ refusal_number r → Shifted number xs bound old (Err r) old
    unfolding shift_answer shift_leaves
    refused r e = shifted _ _ (rw (known, e) (refused_again r _)) (rw (known, e, ne_eqb _ 0 (some_number r)))

    pub answered : (bins : List ℕ) (now : List Float) (n count : ℕ) (best : Best) (z : ℤ) → shift_code (Some m) (length xs) (length old) bound ≡ 0
        → n ≡ fft_size m → now ≡ bin_ratios n xs → bins ≡ pattern m → count ≡ length bins → BestFound bins now bound best → z ≡ minus best.at bound
        → Shifted number xs bound old (Ok (record { shift = z; score = div binary32 best.sum (of_int binary32 (pos count)) })) now
    unfolding shift_answer shift_leaves score_of
    answered bins now n count best z code size left are long found from =
        let best = best_is m xs now bins n bound best size left are found in
        shifted _ _ (rw (known, code, ← best, from, long, are)) (rw (known, code, left, size))
