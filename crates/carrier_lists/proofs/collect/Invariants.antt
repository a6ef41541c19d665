-- `carrier_lists::collect` meets its contract: what is left to choose, stored behind what is stored, is the whole.
-- Assumes nothing.
use Rattle.frame.specs.Roles.{between}
use Rattle.carrier_lists.proofs.Collecting.{Left}
use Rattle.carrier_lists.proofs.collect.Given as goal

abbrev pub invariant-loop-i : goal.invariant-loop-i
invariant-loop-i l = Left (between l.low l.high) l.lowest l.roles l.initial.out l.at l.i l.n l.out
