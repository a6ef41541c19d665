-- `ballots::ballot_of` meets its contract: the best so far, and the phases ahead, come to the choice, and the symbol is heard where a phase has energy.
-- Assumes nothing.
use Rattle.params.specs.Params.{kind_codes}
use Rattle.spectra.specs.Spectra.{pair_at}
use Rattle.ballots.specs.Ballots.{has_energy, phase_metric, choice_of}
use Rattle.ballots.proofs.Chosen.{Ahead, SomeTo}
use Rattle.ballots.proofs.ballot_of.Given as goal

abbrev pub invariant-loop-phase : goal.invariant-loop-phase
invariant-loop-phase l =
    let mode = l.fn.layout.mode in
    let kinds = kind_codes l.fn.layout.kinds in
    Ahead (phase_metric mode kinds (pair_at l.y)) (choice_of mode kinds (pair_at l.y)) l.best l.metric l.phase
    × SomeTo (has_energy mode kinds (pair_at l.y)) l.heard l.phase
