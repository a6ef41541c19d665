-- One bin's ratio, and the ratios left behind (document 02, ask 2). What refuses a bin's pairs, in the words of the request: 5 for an odd length or
-- over 1,024 pairs, 6 for none, and nothing else. And each ratio that an accepted call leaves is, bit for bit, what `bin_ratio` answers for that
-- bin's pairs laid one behind another.
-- Assumes nothing.
use Rattle.std.specs.Prelude.{ℕ, ◌*◌, ◌/◌, ◌%◌, ◌≤◌, ◌<◌, Bool, true, false, ◌&&◌, List, ◌≡◌, refl, eqb, ltb, Float, get_or, length, Result, Ok}
use Rattle.std.proofs.Common.{sym, ap, ◌∙◌, arith, eq-eqb, ne_eqb, le-leb, lt-ltb}
use Rattle.std.proofs.lemmas.Bool.{lt-leb}
use Rattle.std.specs.Float.{nan}
use Rattle.lists.specs.Refusals.{unless}
use Rattle.lists.specs.Select.{get_or_up_to}
use Rattle.complex.specs.Complex.{Pair}
use Rattle.spectra.specs.Spectra.{flat, spectra_in, bin_pairs}
use Rattle.spectra.specs.ChangedBins.{length_bin}
use Rattle.spectra.specs.Flat.{length_flat, bin_flat}
use Rattle.params.specs.declared.Refusal.{Refusal}
use Rattle.params.specs.Params.{code_of}
use Rattle.params.specs.Laws.{answered_code}
use Rattle.spectra.specs.Codes as spectra
use Rattle.ratio.specs.Ratio.{ratio_of, bin_ratios, bin_ratio_code, bin_ratio_answer, BinRatioTold, MetricTaken}
use Rattle.ratio.specs.Codes.{accepted, ratios_length, left_written}

-- ---- what refuses a bin's pairs
pub odd_refused : (n : ℕ) → n % 2 ≡ 1 → bin_ratio_code n ≡ 5
odd_refused n h = rw (ne_eqb (n % 2) 0 (λ e. omega arith))

pub many_refused : (n : ℕ) → 1024 < n / 2 → bin_ratio_code n ≡ 5
many_refused n h = rw (lt-leb (n / 2) 1024 h) (by (eqb (n % 2) 0))
  where
    by : (b : Bool) → unless (b && false) 5 (unless (ltb 0 n) 6 0) ≡ 5
    by true = refl
    by false = refl

pub none_refused : bin_ratio_code 0 ≡ 6
none_refused = refl

pub pairs_accepted : (n : ℕ) → 0 < n → n ≤ 1024 → bin_ratio_code (2 * n) ≡ 0
pairs_accepted n some few =
    rw (eq-eqb (2 * n % 2) 0 (omega arith), le-leb (2 * n / 2) 1024 (omega arith), lt-ltb 0 (2 * n) (omega arith))

-- the answer's number is the number that refuses the pairs, and 0 where nothing does
pub bin_ratio_number_lem : (xs : List Float) → code_of (bin_ratio_answer xs) ≡ bin_ratio_code (length xs)
unfolding bin_ratio_answer
bin_ratio_number_lem xs = answered_code (bin_ratio_code (length xs)) _ (spectra.code_most 1 (length xs) 0 (omega arith))

-- ---- one bin's ratio: 1 to 1,024 pairs laid one behind another have the ratio of these pairs
pub accepted_ratio : (xs : List Float) → bin_ratio_code (length xs) ≡ 0 → bin_ratio_answer xs ≡ Ok (ratio_of (bin_pairs 1 xs 0))
unfolding bin_ratio_answer
accepted_ratio xs e = rw (eq-eqb _ 0 e)

pub ratio_of_pairs : (ps : List Pair) → 0 < length ps → length ps ≤ 1024 → bin_ratio_answer (flat ps) ≡ Ok (ratio_of ps)
ratio_of_pairs ps some few =
    accepted_ratio (flat ps) (rw (length_flat ps) (pairs_accepted (length ps) some few)) ∙ ap (λ (l : List Pair). Ok (ratio_of l)) (bin_flat ps)

-- ---- the ratios left behind
-- there are len of them, and each is what the operation on one bin answers for that bin's pairs, laid one behind another
pub record EachBin (len : ℕ) (xs now : List Float) : Type 0 where
  pub long : length now ≡ len
  pub each : (b : ℕ) → b < len → (a : Result Float Refusal) → BinRatioTold (flat (bin_pairs len xs b)) a → a ≡ Ok (get_or now b nan)

pub each_bin : (len : ℕ) (xs : List Float) → 0 < spectra_in len (length xs) → spectra_in len (length xs) ≤ 1024 → EachBin len xs (bin_ratios len xs)
unfolding bin_ratios
each_bin len xs some few = record { long = ratios_length len xs; each = λ b l a t. t.answer ∙ own b ∙ ap Ok (sym (get_or_up_to _ len b nan l)) }
  where
    own : (b : ℕ) → bin_ratio_answer (flat (bin_pairs len xs b)) ≡ Ok (ratio_of (bin_pairs len xs b))
    own b =
        let all = length_bin len xs b (spectra_in len (length xs)) in
        ratio_of_pairs (bin_pairs len xs b) (rw all some) (rw all few)

pub metric_each : (len : ℕ) (xs old now : List Float) (r : ℕ) → MetricTaken len xs old r now → r ≡ 0 → EachBin len xs now
metric_each len xs old now r t z =
    let a = accepted len (length xs) (length old) 0 (sym t.code ∙ z) in
    rw (left_written len xs old now r t z) (each_bin len xs a.some a.few)
