-- `prbs::band_w` meets its contract: the band is written place by place, and then its edge.
-- Assumes nothing.
use mathlib.Core.Path.{refl, ap, ◌∙◌}
use native.Mathlib.Omega.{arith}
use Rattle.prbs.specs.Signs.{segment_signs, band_signs}
use Rattle.ofdm.specs.Bands.{again, finish}
use Rattle.prbs.proofs.band_w.Goals as goal

pub loop-place-preserved : goal.loop-place-preserved
loop-place-preserved c =
    let e = c.segment_w.ensures ∙ ap (segment_signs _) c.segment_at_position-seg.ensures in
    again _ _ _ _ _ _ _ c.loop-place.invariant _ c.first_carrier-from.ensures c.loop-place-test.true _ _ (omega arith) e refl

pub returns : goal.returns
unfolding band_signs
returns c =
    rw (← c.edge_w.ensures)
    (finish _ _ _ _ _ _ _ c.loop-place.invariant _ c.first_carrier-edge.ensures _ c.loop-place-test.false)
