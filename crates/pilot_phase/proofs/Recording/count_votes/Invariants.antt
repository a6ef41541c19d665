-- `pilot_phase::Recording::count_votes` meets its contract: the counts are those of the votes of the spectra passed, and of those that were heard.
-- Assumes nothing.
use Rattle.params.specs.Params.{kind_codes}
use Rattle.pilot_phase.proofs.Counting.{Counted}
use Rattle.pilot_phase.proofs.Recording.count_votes.Given as goal

abbrev pub invariant-loop-j : goal.invariant-loop-j
invariant-loop-j l = Counted l.self.layout.mode (kind_codes l.self.layout.kinds) l.self.spectra.now l.all l.heard l.j
