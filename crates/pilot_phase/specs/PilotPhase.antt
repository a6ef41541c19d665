-- The pilot phase (acquire.rs, `detect_sp_phase`; document 01, "The pilot phase"). Each symbol's choice, turned back by the symbol's number, is
-- its vote for the phase of symbol 0; the phase with the most votes is answered, with its share of them, the four counts and the lead. The lead is
-- worked out over the votes of the symbols that were heard (document 02, Ask 4). All this is a function of the ballots (ballots/specs/Ballots,
-- winner/specs/Winner).
-- Definitions only.
use Rattle.std.specs.Prelude.{ℕ, suc, ◌+◌, ◌-◌, ◌%◌, cond, List, [], ◌∷◌, ◌≡◌, eqb, get_or, length, Float, Option, Some, None, Result, Ok, Err}
use Rattle.lists.specs.Lists.{up_to}
use Rattle.lists.specs.Refusals.{unless}
use Rattle.params.specs.declared.Mode.{Mode}
use Rattle.params.specs.declared.Refusal.{Refusal}
use Rattle.params.specs.declared.Refusal.TheVariants.{BadMode}
use Rattle.params.specs.Params.{total_carriers, code_of, answered, given}
use Rattle.spectra.specs.Spectra.{are_spectra}
use Rattle.frame.specs.Operations.{are_kinds}
use Rattle.pilot_phase.specs.declared.PilotPhase.{PilotPhase}
use Rattle.pilot_phase.specs.declared.PilotAnswer.{PilotAnswer}
use Rattle.ballots.specs.declared.Ballot.{Ballot}
use Rattle.ballots.specs.Ballots.{pilots, ballots}
use Rattle.winner.specs.Winner.{won_by, share_of, lead_of}

-- ---- from the phase of symbol 0 to that of symbol j, and back
abbrev pub phase_at : ℕ → ℕ → ℕ
phase_at phase j = (phase + j) % 4

-- a symbol's choice, turned back by its number; 4 is added first, since ℕ stops at 0
abbrev pub vote_of : ℕ → ℕ → ℕ
vote_of j choice = (choice + 4 - j % 4) % 4

-- ---- the votes of ballots, the first of them of symbol j
unfoldable pub votes_from : ℕ → List Ballot → List ℕ
votes_from j [] = []
votes_from j (b ∷ bs) = vote_of j b.choice ∷ votes_from (suc j) bs

abbrev pub votes : List Ballot → List ℕ
votes bs = votes_from 0 bs

-- those of the symbols that were heard, each turned back by its own number
unfoldable pub heard_votes_from : ℕ → List Ballot → List ℕ
heard_votes_from j [] = []
heard_votes_from j (b ∷ bs) = let later = heard_votes_from (suc j) bs in cond b.heard (vote_of j b.choice ∷ later) later

unfoldable pub count_of : List ℕ → ℕ → ℕ
count_of [] v = 0
count_of (x ∷ xs) v = cond (eqb x v) 1 0 + count_of xs v

-- the four counts
unfoldable pub counts_of : List ℕ → List ℕ
counts_of vs = up_to (count_of vs) 4

-- the counts behind the lead
abbrev pub heard_counts : List Ballot → List ℕ
heard_counts bs = counts_of (heard_votes_from 0 bs)

-- two lists of counts, phase by phase; and counts whose votes are all turned back by n symbols
abbrev pub plus_counts : List ℕ → List ℕ → List ℕ
plus_counts xs ys = up_to (λ v. get_or xs v 0 + get_or ys v 0) 4

abbrev pub turned_back : ℕ → List ℕ → List ℕ
turned_back n counts = up_to (λ v. get_or counts (phase_at v n) 0) 4

-- ---- what the votes detect: the winner of their counts, with its share of them
unfoldable pub phase_of : List Ballot → PilotPhase
phase_of bs = let counts = counts_of (votes bs) in
    record { phase = won_by counts; share = share_of (get_or counts (won_by counts) 0) (length bs) }

-- ---- the operation: 1; 2; 5 unless whole spectra, 0 to 1,024
unfoldable pub phase_code : Option Mode → List ℕ → ℕ → ℕ
phase_code None kinds floats = 1
phase_code (Some m) kinds floats = unless (are_kinds kinds) 2 (unless (are_spectra (total_carriers m) floats) 5 0)

-- what is detected: no scattered pilots, or the phase with its share
unfoldable pub detected : Mode → List ℕ → List Float → Option PilotPhase
detected m kinds xs = cond (eqb (length (pilots m kinds 0)) 0) None (Some (phase_of (ballots m kinds xs)))

unfoldable pub phase_answer : Option Mode → List ℕ → List Float → Result (Option PilotPhase) Refusal
phase_answer None kinds xs = Err BadMode
phase_answer (Some m) kinds xs = answered (phase_code (Some m) kinds (length xs)) (detected m kinds xs)

-- where there are no scattered pilots, or the call is refused, nothing was counted
abbrev pub no_counts : List ℕ
no_counts = 0 ∷ 0 ∷ 0 ∷ 0 ∷ []

unfoldable pub counts_answer : Option Mode → List ℕ → List Float → List ℕ
counts_answer None kinds xs = no_counts
counts_answer (Some m) kinds xs =
    cond (eqb (phase_code (Some m) kinds (length xs)) 0)
    (cond (eqb (length (pilots m kinds 0)) 0) no_counts (counts_of (votes (ballots m kinds xs))))
    no_counts

-- a lead stands beside a phase; where none is told it is 0
abbrev pub lead_beside : Result (Option PilotPhase) Refusal → ℕ → ℕ
lead_beside (Ok (Some phase)) lead = lead
lead_beside (Ok None) lead = 0
lead_beside (Err refusal) lead = 0

-- the lead of the symbols that were heard
unfoldable pub lead_answer : Option Mode → List ℕ → List Float → ℕ
lead_answer None kinds xs = 0
lead_answer (Some m) kinds xs = lead_beside (phase_answer (Some m) kinds xs) (lead_of (heard_counts (ballots m kinds xs)))

-- ---- the values that an answer gives; what was lent, where it gives none
-- 1 where there are scattered pilots, 0 where there are none
abbrev pub pilots_given : Result (Option PilotPhase) Refusal → ℕ → ℕ
pilots_given (Ok (Some phase)) lent = 1
pilots_given (Ok None) lent = 0
pilots_given (Err refusal) lent = lent

abbrev pub phase_given : Result (Option PilotPhase) Refusal → ℕ → ℕ
phase_given (Ok (Some phase)) lent = phase.phase
phase_given (Ok None) lent = lent
phase_given (Err refusal) lent = lent

abbrev pub share_given : Result (Option PilotPhase) Refusal → Float → Float
share_given (Ok (Some phase)) lent = phase.share
share_given (Ok None) lent = lent
share_given (Err refusal) lent = lent

-- what stands beside the phase, the counts and the lead, is given where the call is not refused
abbrev pub beside_given : {A : Type 0} → Result (Option PilotPhase) Refusal → A → A → A
beside_given (Ok found) value lent = value
beside_given (Err refusal) value lent = lent

-- the phase of an answer
abbrev pub phase_in : Result PilotAnswer Refusal → Result (Option PilotPhase) Refusal
phase_in (Ok answer) = Ok answer.phase
phase_in (Err refusal) = Err refusal

-- counts and a lead of 0 stand for those of a refusal, which has none
pub record PhaseDetected (mode : Option Mode) (kinds : List ℕ) (xs : List Float) (r : Result PilotAnswer Refusal) : Type 0 where
  pub number : code_of r ≡ phase_code mode kinds (length xs)
  pub answer : phase_in r ≡ phase_answer mode kinds xs
  pub counts : given (λ answer. answer.counts) r no_counts ≡ counts_answer mode kinds xs
  pub lead : given (λ answer. answer.lead) r 0 ≡ lead_answer mode kinds xs
