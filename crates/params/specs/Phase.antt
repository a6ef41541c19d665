-- What a number from outside is as a phase.
-- Definitions only.
use Rattle.std.specs.Prelude.{ℕ, ◌<◌, ◌≡◌, Result, Ok, Err}
use Rattle.params.specs.declared.Refusal.{Refusal}
use Rattle.params.specs.declared.Refusal.TheVariants.{BadPhase}
use Rattle.params.specs.declared.phase.Phase.{Phase}

abbrev pub PhaseTold : ℕ → Result Phase Refusal → Type 0
PhaseTold number (Ok phase) = number ≡ phase.number
PhaseTold number (Err refusal) = (3 < number) × (refusal ≡ BadPhase)
