-- `frame::read_kinds` meets its contract: what is read is the kinds' front, and the rest decides the test.
-- Assumes nothing.
use Rattle.frame.proofs.Copied.{Reading}
use Rattle.frame.proofs.read_kinds.Given as goal

abbrev pub invariant-loop-i : goal.invariant-loop-i
invariant-loop-i l = Reading l.kinds l.i l.read
