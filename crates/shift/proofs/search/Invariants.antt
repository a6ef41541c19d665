-- `shift::search` meets its contract: the best so far is the winner among the shifts passed.
-- Assumes nothing.
use Rattle.shift.proofs.Finding.{Passed}
use Rattle.shift.proofs.search.Given as goal

abbrev pub invariant-loop-j : goal.invariant-loop-j
invariant-loop-j l = Passed l.bins l.ratios l.bound l.j l.best
