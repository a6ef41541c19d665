-- The pilot phase does not depend on the phase or the gain at which the recorder ran: where single spectra are negated, all are turned by a
-- quarter, or all are amplified by a power of two on whole-number parts, every symbol's ballot is as before (ballots/specs/Changed). So phase,
-- share, counts and lead, which are functions of the ballots, are the same, bit for bit.
-- Assumes nothing.
use Rattle.std.specs.Prelude.{ℕ, List, ◌≡◌, eqb, length, Float, Some, None}
use Rattle.std.proofs.Math.Bool.{cond}
use Rattle.params.specs.declared.Mode.{Mode}
use Rattle.params.specs.Params.{total_carriers, answered}
use Rattle.complex.specs.Changes.{Change}
use Rattle.spectra.specs.Changes.{Changed, Allowed}
use Rattle.ballots.specs.Ballots.{pilots, ballots}
use Rattle.ballots.specs.Changed.{changed_ballots}
use Rattle.winner.specs.Winner.{lead_of}
use Rattle.pilot_phase.specs.PilotPhase.{votes, counts_of, heard_counts, phase_of, phase_code, detected, phase_answer, no_counts, counts_answer}
use Rattle.pilot_phase.specs.PilotPhase.{lead_beside, lead_answer}

module _ (c : Change) (mode : Mode) (kinds : List ℕ) (xs ys : List Float) (A : Allowed c (total_carriers mode) xs)
    (h : Changed c (total_carriers mode) (λ b. b) xs ys) where
  same : ballots mode kinds ys ≡ ballots mode kinds xs
  same = changed_ballots c mode kinds xs ys A h

  pub changed_phase : phase_answer (Some mode) kinds ys ≡ phase_answer (Some mode) kinds xs
  unfolding phase_answer detected
  changed_phase = λ i.
      answered (phase_code (Some mode) kinds (h.long i)) (cond (eqb (length (pilots mode kinds 0)) 0) None (Some (phase_of (same i))))

  pub changed_counts : counts_answer (Some mode) kinds ys ≡ counts_answer (Some mode) kinds xs
  unfolding counts_answer
  changed_counts = λ i.
      cond (eqb (phase_code (Some mode) kinds (h.long i)) 0)
      (cond (eqb (length (pilots mode kinds 0)) 0) no_counts (counts_of (votes (same i))))
      no_counts

  pub changed_lead : lead_answer (Some mode) kinds ys ≡ lead_answer (Some mode) kinds xs
  unfolding lead_answer
  changed_lead = λ i. lead_beside (changed_phase i) (lead_of (heard_counts (same i)))
