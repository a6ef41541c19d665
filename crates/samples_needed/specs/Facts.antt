-- Without a mode, or without a guard, no samples are needed. An answer's number is the operation's code.
-- Assumes nothing.
use Rattle.std.specs.Prelude.{ℕ, ◌≤◌, List, [], ◌∷◌, ◌≡◌, refl}
use Rattle.std.proofs.Common.{arith}
use Rattle.params.specs.Params.{code_of}
use Rattle.params.specs.Laws.{answered_code}
use Rattle.samples_needed.specs.Samples.{samples_needed, samples_code, samples_answer}

pub no_modes : (guards : List ℕ) (symbols : ℕ) → samples_needed [] guards symbols ≡ 0
no_modes guards symbols = refl

pub no_guards : (modes : List ℕ) (symbols : ℕ) → samples_needed modes [] symbols ≡ 0
no_guards [] symbols = refl
no_guards (mode ∷ modes) symbols = no_guards modes symbols

-- an answer's number is the number that refuses the call, and 0 where nothing does
pub samples_number_lem : (modes guards : List ℕ) (symbols : ℕ) → code_of (samples_answer modes guards symbols) ≡ samples_code modes guards symbols
samples_number_lem modes guards symbols = answered_code (samples_code modes guards symbols) (samples_needed modes guards symbols) few
  where
    few : samples_code modes guards symbols ≤ 11
    few = grind arith
