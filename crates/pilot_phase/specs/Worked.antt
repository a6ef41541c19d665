-- Leads worked out by the definition, so that a reader sees it on a few ballots: what silence did to the lead before, and that a symbol keeps its
-- number where those before it were silent.
-- Assumes nothing.
use Rattle.std.specs.Prelude.{ℕ, true, false, [], ◌∷◌, ◌≡◌, refl}
use Rattle.ballots.specs.declared.Ballot.{Ballot}
use Rattle.winner.specs.Winner.{won_by, next_to, lead_of}
use Rattle.pilot_phase.specs.PilotPhase.{votes_from, votes, heard_votes_from, count_of, counts_of, heard_counts}

-- symbols that choose a phase, heard and silent. A silent one chooses phase 0 (ballots/specs/Silent)
abbrev pub says : ℕ → Ballot
says choice = record { choice = choice; heard = true }

abbrev pub silent : Ballot
silent = record { choice = 0; heard = false }

-- one silent symbol votes for phase 0, and led by 1 while it counted for the lead
pub silence_voted : counts_of (votes (silent ∷ [])) ≡ 1 ∷ 0 ∷ 0 ∷ 0 ∷ []
unfolding votes_from count_of counts_of
silence_voted = refl

pub silence_led : lead_of (counts_of (votes (silent ∷ []))) ≡ 1
unfolding votes_from count_of counts_of lead_of won_by next_to
silence_led = refl

pub silence_leads : lead_of (heard_counts (silent ∷ [])) ≡ 0
unfolding heard_votes_from count_of counts_of lead_of won_by next_to
silence_leads = refl

-- symbol 0 has phase 1 and symbol 2 has phase 3, with a silent one between: both vote for phase 1 of symbol 0, and it leads by 2
pub number_kept : lead_of (heard_counts (says 1 ∷ silent ∷ says 3 ∷ [])) ≡ 2
unfolding heard_votes_from count_of counts_of lead_of won_by next_to
number_kept = refl

-- numbered anew, symbol 2 would be symbol 1 and vote for phase 2, and none would lead
pub numbered_anew : lead_of (heard_counts (says 1 ∷ says 3 ∷ [])) ≡ 0
unfolding heard_votes_from count_of counts_of lead_of won_by next_to
numbered_anew = refl

-- the counts of all symbols are led by 1 here, since silence votes for phase 3
pub lead_before : lead_of (counts_of (votes (says 1 ∷ silent ∷ says 3 ∷ []))) ≡ 1
unfolding votes_from count_of counts_of lead_of won_by next_to
lead_before = refl
