-- The words of the contracts inside this crate.
-- Definitions only.
use Rattle.std.specs.Prelude.{ℕ, ◌*◌, ◌%◌, ◌≤◌, ◌<◌, cond, List, ◌≡◌, eqb, get_or, length, Float, Some, Ok}
use Rattle.params.specs.declared.Mode.{Mode}
use Rattle.params.specs.Params.{total_carriers}
use Rattle.spectra.specs.Spectra.{spectra_in}
use Rattle.ballots.specs.declared.Ballot.{Ballot}
use Rattle.ballots.specs.Ballots.{pilots, ballots}
use Rattle.winner.specs.Winner.{won_by, share_of, lead_of}
use Rattle.winner.specs.Inner.{Few}
use Rattle.pilot_phase.specs.declared.PilotAnswer.{PilotAnswer}
use Rattle.pilot_phase.specs.declared.VoteCounts.{VoteCounts}
use Rattle.pilot_phase.specs.PilotPhase.{votes, counts_of, heard_counts, detected, no_counts, lead_beside}

-- ---- the votes
-- n floats are whole spectra of the band, at most 1,024
pub record Whole (mode : Mode) (n : ℕ) : Type 0 where
  pub whole : n % (2 * total_carriers mode) ≡ 0
  pub few : spectra_in (total_carriers mode) n ≤ 1024

-- the counts of the votes of all ballots, and of those that were heard
pub record VoteCountsOf (bs : List Ballot) (r : VoteCounts) : Type 0 where
  pub all : r.all ≡ counts_of (votes bs)
  pub heard : r.heard ≡ heard_counts bs

-- each of the counts of n spectra is few
pub record Counted (counts : List ℕ) (n : ℕ) : Type 0 where
  pub each : (p : ℕ) → p < 4 → Few (get_or counts p 0) n

-- ---- the answers
-- what these counts of the votes of `total` spectra tell: those of all symbols the phase and its share, those of the symbols heard the lead
abbrev pub told : VoteCounts → ℕ → PilotAnswer
told counts total =
    let won = won_by counts.all in
    record {
      phase = Some (record { phase = won; share = share_of (get_or counts.all won 0) total });
      counts = counts.all;
      lead = lead_of counts.heard;
    }

-- the counts of an accepted call, and all that it answers
unfoldable pub accepted_counts : Mode → List ℕ → List Float → List ℕ
accepted_counts mode kinds xs = cond (eqb (length (pilots mode kinds 0)) 0) no_counts (counts_of (votes (ballots mode kinds xs)))

abbrev pub pilot_answer : Mode → List ℕ → List Float → PilotAnswer
pilot_answer mode kinds xs =
    record {
      phase = detected mode kinds xs;
      counts = accepted_counts mode kinds xs;
      lead = lead_beside (Ok (detected mode kinds xs)) (lead_of (heard_counts (ballots mode kinds xs)));
    }
