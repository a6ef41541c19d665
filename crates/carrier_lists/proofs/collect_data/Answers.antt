-- `carrier_lists::collect_data` meets its contract: the carriers of the segments so far are stored behind one another.
-- Assumes nothing.
use Rattle.carrier_lists.proofs.Stored.{data_room, data_again, data_done}
use Rattle.carrier_lists.proofs.collect_data.Goals as goal

pub collect-at-requires : goal.collect-at-requires
collect-at-requires c =
    data_room _ _ _ _ _ _ _ c.loop-seg.invariant _ _ c.segment_position.ensures.0 c.first_carrier-first.ensures c.loop-seg-test.true

pub loop-seg-preserved : goal.loop-seg-preserved
loop-seg-preserved c =
    data_again _ _ _ _ _ _ _ c.loop-seg.invariant _ _ c.segment_position.ensures.0 c.first_carrier-first.ensures c.loop-seg-test.true
    _ _ c.collect-at.ensures

pub returns : goal.returns
returns c = data_done _ _ _ _ _ _ _ c.loop-seg.invariant c.loop-seg-test.false
