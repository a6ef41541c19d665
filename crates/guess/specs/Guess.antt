-- The guess (acquire.rs, `detect_mode`; document 01, "The guess"): guard-interval autocorrelation over samples, for each mode and guard of
-- the lists and each offset within a symbol. Prefix sums of the lagged products and of the halved energies are made once a mode
-- (correlation/specs/Correlation).
-- Definitions only.
use Rattle.std.specs.Prelude.{ℕ, ◌+◌, ◌*◌, ◌%◌, Bool, true, ◌&&◌, cond, List, ◌≡◌, leb}
use Rattle.std.specs.Prelude.{ltb, eqb, length, replicate, fold, Float, Option, Some, None, Result, Ok, Err}
use Rattle.std.specs.Float.{binary64}
use Rattle.std.specs.Float.Ieee.{div, lt, le}
use Rattle.ieee.specs.Constants.{plus_zero}
use Rattle.lists.specs.Lists.{range}
use Rattle.lists.specs.Refusals.{unless}
use Rattle.lists.specs.Tests.{all_in}
use Rattle.complex.specs.Complex.{Pair, pair, norm64}
use Rattle.params.specs.declared.Refusal.{Refusal}
use Rattle.params.specs.Params.{code_of, answered}
use Rattle.samples_needed.specs.Samples.{is_mode, is_guard, fft_of, guard_of, symbol_of}
use Rattle.correlation.specs.Correlation.{pairs_in, lags_in, real_prefixes, imaginary_prefixes, energy_prefixes, starts, window_sum}
use Rattle.guess.specs.declared.ModeGuess.{ModeGuess}

-- the summed correlation and energy at an offset
unfoldable pub correlation_at : List Float → ℕ → ℕ → ℕ → Pair
correlation_at xs mode guard d =
    let n = fft_of mode in
    let from = starts (symbol_of mode guard) (guard_of mode guard) (lags_in n xs) d in
    pair (window_sum (real_prefixes n xs) (guard_of mode guard) from) (window_sum (imaginary_prefixes n xs) (guard_of mode guard) from)

unfoldable pub energy_at : List Float → ℕ → ℕ → ℕ → Float
energy_at xs mode guard d =
    let n = fft_of mode in
    window_sum (energy_prefixes n xs) (guard_of mode guard) (starts (symbol_of mode guard) (guard_of mode guard) (lags_in n xs) d)

unfoldable pub guess_at : List Float → ℕ → ℕ → ℕ → ModeGuess
guess_at xs mode guard d =
    let g = correlation_at xs mode guard d in
    record {
      mode = mode;
      guard = guard;
      offset = d;
      metric = div binary64 (norm64 g) (energy_at xs mode guard d);
      correlation = record { re = g.re; im = g.im };
    }

-- ---- the search. An offset with energy at or below zero is passed over; the first other is taken, and then only a greater metric
abbrev pub beats : ModeGuess → Option ModeGuess → Bool
beats guess (Some best) = lt best.metric guess.metric
beats guess None = true

abbrev pub offered : List Float → ℕ → ℕ → Option ModeGuess → ℕ → Option ModeGuess
offered xs mode guard best d =
    cond (le (energy_at xs mode guard d) (plus_zero binary64)) best (cond (beats (guess_at xs mode guard d) best) (Some (guess_at xs mode guard d)) best)

-- one after the other
unfoldable pub scan : (Option ModeGuess → ℕ → Option ModeGuess) → Option ModeGuess → List ℕ → Option ModeGuess
scan f best xs = fold f best xs

-- a guard is tried where five of its symbols fit
unfoldable pub tried_guard : List Float → ℕ → Option ModeGuess → ℕ → Option ModeGuess
tried_guard xs mode best guard =
    cond (leb (guard_of mode guard + 4 * symbol_of mode guard) (lags_in (fft_of mode) xs))
    (scan (offered xs mode guard) best (range (symbol_of mode guard))) best

unfoldable pub tried_mode : List Float → List ℕ → Option ModeGuess → ℕ → Option ModeGuess
tried_mode xs guards best mode = cond (ltb (fft_of mode) (pairs_in (length xs))) (scan (tried_guard xs mode) best guards) best

unfoldable pub guessed : List Float → List ℕ → List ℕ → Option ModeGuess
guessed xs modes guards = scan (tried_mode xs guards) None modes

-- ---- the operation: 1; 9; 5 for an odd length or more than 1,048,576 pairs; 7 unless the scratch has 3 × (pairs + 1) entries or more
unfoldable pub guess_code : List ℕ → List ℕ → ℕ → ℕ → ℕ
guess_code modes guards floats scratch =
    unless (all_in is_mode modes) 1
    (unless (all_in is_guard guards) 9
    (unless (eqb (floats % 2) 0 && leb (pairs_in floats) 1048576) 5
    (unless (leb (3 * (pairs_in floats + 1)) scratch) 7 0)))

unfoldable pub guess_answer : List Float → List ℕ → List ℕ → ℕ → Result (Option ModeGuess) Refusal
guess_answer xs modes guards scratch = answered (guess_code modes guards (length xs) scratch) (guessed xs modes guards)

-- what the answer gives, or what was lent: 1 where something is found and 0 where nothing is; and a value of the guess
abbrev pub found_given : Result (Option ModeGuess) Refusal → ℕ → ℕ
found_given (Ok (Some g)) lent = 1
found_given (Ok None) lent = 0
found_given (Err refusal) lent = lent

abbrev pub guess_given : {A : Type 0} → (ModeGuess → A) → Result (Option ModeGuess) Refusal → A → A
guess_given value (Ok (Some g)) lent = value g
guess_given value (Ok None) lent = lent
guess_given value (Err refusal) lent = lent

-- the scratch at exit: zeros, all of it, after an accepted call
unfoldable pub scratch_leaves : ℕ → List ℕ → List ℕ → List Float → List Float
scratch_leaves floats modes guards old = cond (eqb (guess_code modes guards floats (length old)) 0) (replicate (length old) (plus_zero binary64)) old

pub record Searched (xs : List Float) (modes guards : List ℕ) (old : List Float) (r : Result (Option ModeGuess) Refusal) (now : List Float) : Type 0 where
  -- 0 also where nothing is found
  pub number : code_of r ≡ guess_code modes guards (length xs) (length old)
  pub answer : r ≡ guess_answer xs modes guards (length old)
  pub leaves : now ≡ scratch_leaves (length xs) modes guards old
