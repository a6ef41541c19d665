-- `frame::read_kinds` meets its contract: what is read is the kinds' front, and the rest decides the test.
-- Assumes nothing.
use Rattle.std.proofs.Common.{arith}
use Rattle.frame.proofs.Copied.{one_more, all_read}
use Rattle.frame.proofs.read_kinds.Goals as goal

pub loop-i-preserved : goal.loop-i-preserved
loop-i-preserved c =
    one_more _ _ _ c.loop-i.invariant (omega (arith, c.loop-i.invariant.all)) _ c.in_ok-read.ensures

pub returns : goal.returns
returns c = all_read _ _ _ c.loop-i.invariant (omega (arith, c.loop-i.invariant.all)) (omega (arith, c.loop-i.invariant.all))
