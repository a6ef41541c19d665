-- `carrier_lists::collect_data` meets its contract: the carriers of the segments so far are stored behind one another.
-- Assumes nothing.
use Rattle.carrier_lists.proofs.Stored.{DataTo}
use Rattle.carrier_lists.proofs.collect_data.Given as goal

abbrev pub invariant-loop-seg : goal.invariant-loop-seg
invariant-loop-seg l = DataTo l.mode l.roles l.initial.out l.c l.seg l.at l.out
