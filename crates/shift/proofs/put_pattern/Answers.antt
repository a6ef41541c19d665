-- `shift::put_pattern` meets its contract: the bins of the segments so far are stored, and the edge behind them all.
-- Assumes nothing.
use native.Mathlib.Omega.{arith}
use Rattle.shift.proofs.Segments.{fill_again, fill_done}
use Rattle.shift.proofs.put_pattern.Goals as goal

pub loop-seg-preserved : goal.loop-seg-preserved
loop-seg-preserved c = fill_again _ _ _ _ _ c.loop-seg.invariant _ _ c.loop-seg-test.true c.put_segment-at.ensures

pub returns : goal.returns
returns c =
    fill_done _ _ _ _ _ c.loop-seg.invariant _ _ c.requires c.loop-seg-test.false (omega arith) c.total_carriers.ensures c.carrier_bin-edge.ensures
