-- How both parts of the correlation before and after a gain of 2 ^ k are related, exactly: the part after it is the f64 product of the part before
-- it and 2 ^ (2 × k). A gain of 1 leaves a part as it is, whatever it holds. All else that a guess carries, and what else a search answers,
-- is the same (document 01, "The guess"); that this is so is `changed_guess` of Changed.
-- Definitions only.
use Rattle.std.specs.Prelude.{ℕ, zero, suc, ◌*◌, Float, Option, Some, None, Result, Ok, Err}
use Rattle.std.specs.Float.{binary64}
use Rattle.std.specs.Float.Ieee.{mul}
use Rattle.ieee.specs.Levels.{two}
use Rattle.params.specs.declared.Refusal.{Refusal}
use Rattle.guess.specs.declared.ModeGuess.{ModeGuess}

-- a part of the correlation, times the gain twice
abbrev pub twice_gained : ℕ → Float → Float
twice_gained zero x = x
twice_gained (suc k) x = mul binary64 x (two (2 * suc k))

-- both parts of a guess
abbrev pub louder_guess : ℕ → ModeGuess → ModeGuess
louder_guess k g =
    record {
      mode = g.mode;
      guard = g.guard;
      offset = g.offset;
      metric = g.metric;
      correlation = record { re = twice_gained k g.correlation.re; im = twice_gained k g.correlation.im };
    }

-- those of what a search found
abbrev pub louder : ℕ → Option ModeGuess → Option ModeGuess
louder k (Some g) = Some (louder_guess k g)
louder k None = None

-- those of an answer
abbrev pub louder_answer : ℕ → Result (Option ModeGuess) Refusal → Result (Option ModeGuess) Refusal
louder_answer k (Ok found) = Ok (louder k found)
louder_answer k (Err refusal) = Err refusal
