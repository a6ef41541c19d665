-- `frame_start::frame_start` meets its contract: the bits from f on are carried along, and at no start before f stands a word.
-- Assumes nothing.
use Rattle.frame_start.proofs.Register.{Searched}
use Rattle.frame_start.proofs.frame_start.Given as goal

abbrev pub invariant-loop-start : goal.invariant-loop-start
invariant-loop-start l = Searched l.soft l.bits l.start
