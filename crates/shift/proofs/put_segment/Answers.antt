-- `shift::put_segment` meets its contract: the bins of the row's places are stored behind one another.
-- Assumes nothing.
use Prim.Native.Nat.{◌<◌}
use lib.ListN.{length, length-map}
use Rattle.shift.proofs.Storing.{store_again, store_done}
use Rattle.shift.proofs.AcRow.{bins_at, inside, carrier_inside, bin_stored, bins_are}
use Rattle.shift.proofs.put_segment.Goals as goal

pub band_carrier-k-requires : goal.band_carrier-k-requires
band_carrier-k-requires c =
    let place = c.segment_position-place.ensures in
    (place.1, inside _ _ _ _ c.requires.segment c.ac1_positions-row.ensures place.0 place.1 c.loop-i.i c.loop-i-test.true)

pub carrier_bin-bin-requires : goal.carrier_bin-bin-requires
carrier_bin-bin-requires c =
    let place = c.segment_position-place.ensures in
    carrier_inside _ _ _ _ c.requires.segment c.ac1_positions-row.ensures place.0 place.1 c.loop-i.i _ c.loop-i-test.true c.band_carrier-k.ensures

pub loop-i-preserved : goal.loop-i-preserved
loop-i-preserved c =
    let place = c.segment_position-place.ensures in
    let stored = bin_stored _ _ _ _ c.requires.segment c.ac1_positions-row.ensures place.0 place.1 _ _ c.loop-i-test.true c.band_carrier-k.ensures
    _ c.carrier_bin-bin.ensures in
    let left : c.loop-i.i < length (bins_at c.args.mode c.segment_position-place.result.0 c.ac1_positions-row.result.now) =
    simp length-map c.loop-i-test.true in
    store_again _ _ _ _ _ _ _ left stored c.loop-i.invariant

pub returns : goal.returns
returns c =
    let place = c.segment_position-place.ensures in
    let bins = bins_are _ _ _ _ c.requires.segment c.ac1_positions-row.ensures place.0 place.1 in
    store_done _ _ _ _ c.loop-i.i _ _ bins (simp length-map) c.loop-i-test.false c.loop-i.invariant
