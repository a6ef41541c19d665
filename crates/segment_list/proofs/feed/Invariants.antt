-- `segment_list::feed`: each turn takes a byte more behind those taken.
-- Assumes nothing.
use Rattle.segment_list.proofs.Turns.{Taking}
use Rattle.segment_list.proofs.feed.Given as goal

abbrev pub invariant-loop-i : goal.invariant-loop-i
invariant-loop-i l = Taking l.initial.held l.input l.from l.initial.out l.at l.held l.i l.to l.out
