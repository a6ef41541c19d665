-- The words of the contracts inside this crate.
-- Definitions only.
use Rattle.std.specs.Prelude.{ℕ, true, cond, List, ◌≡◌, length, Float, Option, Some}
use Rattle.std.specs.Float.{binary64}
use Rattle.std.specs.Float.Ieee.{div, le}
use Rattle.ieee.specs.Constants.{plus_zero}
use Rattle.lists.specs.Tests.{all_in}
use Rattle.complex.specs.Complex.{of64, norm64}
use Rattle.samples_needed.specs.Samples.{is_guard, fft_of}
use Rattle.correlation.specs.declared.Window.{Window}
use Rattle.correlation.specs.Correlation.{pairs_in, lags_in}
use Rattle.correlation.specs.Inner.{Holds, Room}
use Rattle.guess.specs.declared.ModeGuess.{ModeGuess}
use Rattle.guess.specs.Guess.{beats, tried_guard}

-- ---- the guess that a window's sums tell
abbrev pub guess_of : ℕ → ℕ → ℕ → Window → ModeGuess
guess_of mode guard d w =
    let metric = div binary64 (norm64 (of64 w.correlation)) w.energy in
    record { mode = mode; guard = guard; offset = d; metric = metric; correlation = w.correlation }

-- the better of the best so far and a guess with that energy
abbrev pub better_of : Option ModeGuess → Float → ModeGuess → Option ModeGuess
better_of best energy guess = cond (le energy (plus_zero binary64)) best (cond (beats guess best) (Some guess) best)

-- ---- a guard tried, over whatever samples the sums hold
pub record Triable (sums : List Float) (guard len : ℕ) : Type 0 where
  pub known : is_guard guard ≡ true
  pub room : Room len sums

abbrev pub Tried : List Float → ℕ → ℕ → ℕ → Option ModeGuess → Option ModeGuess → Type 0
Tried sums mode guard len start r =
    (xs : List Float) → Holds (fft_of mode) xs sums → len ≡ lags_in (fft_of mode) xs → r ≡ tried_guard xs mode start guard

-- guards that may all be tried over the samples xs
pub record AllTriable (xs : List Float) (guards : List ℕ) (sums : List Float) : Type 0 where
  pub known : all_in is_guard guards ≡ true
  pub room : Room (pairs_in (length xs)) sums
