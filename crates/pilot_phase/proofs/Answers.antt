-- What the tests on the way to a return make of the definition of `detect_sp_phase`.
-- Assumes nothing.
use Rattle.std.proofs.Common.{Option, None, Ok, Err}
use Prim.Native.Nat.{ℕ, ◌*◌, ◌/◌, ◌≤◌}
use mathlib.Core.Bool.{true, false}
use mathlib.Core.List.{List}
use mathlib.Core.Path.{◌≡◌, refl, sym}
use native.Mathlib.Omega.{arith}
use borrow.Author.Tests.{not-false, not-true}
use lib.Dec.{eqb}
use lib.ListN.{length, get_or}
use lib.Ieee.{Float}
use Rattle.params.specs.declared.Mode.{Mode}
use Rattle.params.specs.declared.Refusal.{Refusal}
use Rattle.params.specs.declared.Refusal.TheVariants.{NotWhole}
use Rattle.params.specs.Params.{total_carriers, kind_codes}
use Rattle.spectra.specs.Spectra.{are_spectra}
use Rattle.frame.specs.declared.FrameLayout.{FrameLayout}
use Rattle.frame.specs.Inner.{Accepted, RefusedLayout}
use Rattle.frame.specs.Answers.{by_refusal}
use Rattle.ballots.specs.Ballots.{pilots, ballots}
use Rattle.ballots.specs.Facts.{ballots_length}
use Rattle.ballots.specs.Inner.{some_pilots}
use Rattle.pilot_phase.specs.declared.PilotAnswer.{PilotAnswer}
use Rattle.pilot_phase.specs.declared.VoteCounts.{VoteCounts}
use Rattle.pilot_phase.specs.PilotPhase.{votes, count_of, phase_of, no_counts}
use Rattle.pilot_phase.specs.PilotPhase.{phase_code, detected, phase_answer, counts_answer, lead_answer, PhaseDetected}
use Rattle.pilot_phase.specs.Inner.{Whole, VoteCountsOf, Counted, told, accepted_counts, pilot_answer}
use Rattle.pilot_phase.specs.Facts.{counts_at}
use Rattle.pilot_phase.proofs.Counting.{votes_few}

-- ---- an accepted call
module _ (m : Mode) (kinds : List ℕ) (xs : List Float) where
  -- the counts of so few spectra
  pub few_counted : {counts : VoteCounts} {k : ℕ} → Whole m (length xs) → k ≡ total_carriers m → VoteCountsOf (ballots m kinds xs) counts
      → Counted counts.all (length xs / (2 * k))
  few_counted {counts} {k} w e c =
      let vs = votes (ballots m kinds xs) in
      let total : length xs / (2 * k) ≤ 1024 = rw e w.few in
      record {
        each = λ p h.
            let n : get_or counts.all p 0 ≡ count_of vs p = rw c.all (counts_at vs p h) in
            record { votes = omega (arith, n, votes_few m kinds xs p, w.few); spectra = total };
      }

  pub no_pilots : some_pilots m kinds ≡ false → record { phase = None; counts = no_counts; lead = 0 } ≡ pilot_answer m kinds xs
  unfolding detected accepted_counts
  no_pilots p = let none : eqb (length (pilots m kinds 0)) 0 ≡ true = not-false _ p in rw none

  pub some_pilots_lem : {counts : VoteCounts} {k : ℕ} → some_pilots m kinds ≡ true → k ≡ total_carriers m
      → VoteCountsOf (ballots m kinds xs) counts → told counts (length xs / (2 * k)) ≡ pilot_answer m kinds xs
  unfolding detected accepted_counts phase_of
  some_pilots_lem {counts} {k} p e c =
      let some : eqb (length (pilots m kinds 0)) 0 ≡ false = not-true _ p in
      let n : length xs / (2 * k) ≡ length (ballots m kinds xs) = rw e (sym (ballots_length m kinds xs)) in
      rw (some, n, c.all, c.heard)

module _ (kinds : List ℕ) (xs : List Float) where
  pub refused_layout : (number : Option Mode) (refusal : Refusal) → RefusedLayout number kinds refusal → PhaseDetected number kinds xs (Err refusal)
  unfolding phase_code phase_answer counts_answer lead_answer
  refused_layout =
      by_refusal kinds (λ n r. PhaseDetected n kinds xs (Err r)) (record { number = refl; answer = refl; counts = refl; lead = refl })
      (λ m g. record { number = rw g; answer = rw g; counts = rw g; lead = rw g })

  module _ {number : Option Mode} {layout : FrameLayout} (a : Accepted number kinds layout) where
    pub refused_length : are_spectra (total_carriers layout.mode) (length xs) ≡ false → PhaseDetected number kinds xs (Err NotWhole)
    unfolding phase_code phase_answer counts_answer lead_answer
    refused_length e =
        record { number = rw (a.known, a.good, e); answer = rw (a.known, a.good, e); counts = rw (a.known, a.good, e); lead = rw (a.known, a.good, e) }

    pub accepted : are_spectra (total_carriers layout.mode) (length xs) ≡ true
        → {answer : PilotAnswer} → answer ≡ pilot_answer layout.mode (kind_codes layout.kinds) xs → PhaseDetected number kinds xs (Ok answer)
    unfolding phase_code phase_answer counts_answer lead_answer accepted_counts
    accepted e r =
        record {
          number = rw (a.known, a.good, e);
          answer = rw (r, a.same, a.known, a.good, e);
          counts = rw (r, a.same, a.known, a.good, e);
          lead = rw (r, a.same, a.known, a.good, e);
        }
