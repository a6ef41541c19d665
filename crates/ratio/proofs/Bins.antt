-- What is used of spectra and of one bin's pairs that are accepted, and a bin's ratio from its sums.
-- Assumes nothing.
use Prim.Native.Nat.{ℕ, ◌+◌, ◌-◌, ◌*◌, ◌≤◌, ◌<◌}
use mathlib.Core.List.{List}
use mathlib.Core.Path.{◌≡◌, sym, ap, ◌∙◌}
use native.Mathlib.Omega.{arith}
use lib.Ieee.{Float}
use lib.ListN.{length, take, drop}
use Rattle.complex.specs.Complex.{Pair, of32, norm32}
use Rattle.spectra.specs.Codes as spectra
use Rattle.spectra.specs.Flat.{length_part, bin_part}
use Rattle.spectra.specs.Spectra.{column, bin_pairs}
use Rattle.std.proofs.Common.{Result, Ok, Err}
use Rattle.params.specs.declared.Refusal.{Refusal}
use Rattle.params.specs.Params.{refusal_number}
use Rattle.params.specs.Laws.{refused_again}
use Rattle.ratio.specs.declared.BinSums.{BinSums}
use Rattle.ratio.specs.Ratio.{correlation, guarded, ratio_of, bin_ratio_code, bin_ratio_answer, BinRatioTold}
use Rattle.ratio.specs.EachBin.{pairs_accepted, accepted_ratio}
use Rattle.ratio.specs.Inner.{Summed}

-- what `BinSums::ratio` makes of a bin's sums
pub ratio_of_lem : (xs : List Pair) (s : BinSums) (r : Float) → r ≡ guarded (norm32 (of32 s.num)) s.den → Summed xs s → r ≡ ratio_of xs
unfolding ratio_of
ratio_of_lem xs s r e h = e ∙ (ap (λ (z : Pair). guarded (norm32 z) s.den) h.num ∙ ap (guarded (norm32 (correlation xs))) h.den)

-- ---- one bin's pairs
-- where they are accepted, there is a pair
pub some_pair : (n : ℕ) → bin_ratio_code n ≡ 0 → 2 ≤ n
some_pair n e = let a = spectra.accepted 1 n 0 e in omega (arith, a.some)

module _ (xs : List Float) where
  pub bin_refused : (refusal : Refusal) → refusal_number refusal ≡ bin_ratio_code (length xs) → BinRatioTold xs (Err refusal)
  unfolding bin_ratio_answer
  bin_refused refusal told = record { number = told; answer = rw (← told) (refused_again refusal _) }

  pub bin_answered : (r : Float) → 0 ≡ bin_ratio_code (length xs) → r ≡ ratio_of (bin_pairs 1 xs 0) → BinRatioTold xs (Ok r)
  bin_answered r told e = record { number = told; answer = sym (accepted_ratio xs (sym told) ∙ ap Ok (sym e)) }

-- the ratio of what `ratio_in` reads, n pairs of a flat list from pair k on, is that of these pairs
pub part_sums : (xs : List Float) (k n : ℕ) (r : Float) → 2 * (k + n) ≤ length xs → 0 < n
    → r ≡ ratio_of (bin_pairs 1 (take (2 * k + 2 * n - 2 * k) (drop (2 * k) xs)) 0) → r ≡ ratio_of (column xs 1 k n)
part_sums xs k n r room some e =
    let size : 2 * k + 2 * n - 2 * k ≡ 2 * n = omega arith in
    rw size at e ∙ ap ratio_of (bin_part xs k n room)

-- what `bin_ratio` answers for n pairs of a flat list from pair k on, 1 to 1,024 of them, is no refusal but their ratio
pub part_ratio : (xs : List Float) (k n : ℕ) (a : Result Float Refusal) → 2 * (k + n) ≤ length xs → 0 < n → n ≤ 1024
    → BinRatioTold (take (2 * k + 2 * n - 2 * k) (drop (2 * k) xs)) a → a ≡ Ok (ratio_of (column xs 1 k n))
part_ratio xs k n a room some few t =
    let size : 2 * k + 2 * n - 2 * k ≡ 2 * n = omega arith in
    let all = length_part xs k n room in
    rw size at t.answer ∙ accepted_ratio _ (rw all (pairs_accepted n some few)) ∙ ap (λ (l : List Pair). Ok (ratio_of l)) (bin_part xs k n room)
