-- `chanest::Capture::write_points` meets its contract: the points of the places passed are written, and `below` tells whether the last one is coherent.
-- Assumes nothing.
use mathlib.Core.Path.{◌∙◌}
use Rattle.chanest.proofs.Points.{by_window, placed, stored}
use Rattle.chanest.proofs.Band.{all, low, again_coherent, again_closed, again_open}
use Rattle.chanest.proofs.Capture.write_points.Goals as goal
use Rattle.chanest.proofs.Capture.write_points.Goals.{then-coherent, else-coherent+then-below, else-coherent+else-below}

pub write_point-requires : goal.write_point-requires
write_point-requires c =
    let h = c.loop-place-test.true in
    placed c.args.self.now.layout.mode (low _ _ _ _ _ c.loop-place.invariant h c.lowest_point-lowest.ensures) c.continual_times-continual.ensures
    (c.loop-place.invariant.lower.size ∙ c.requires)

pub loop-place-preserved : goal.loop-place-preserved
loop-place-preserved c =
    let h = c.loop-place-test.true in
    let at = c.lowest_point-lowest.ensures in
    let told = c.is_coherent-coherent.ensures in
    let s = c.args.self.now in
    let room = c.loop-place.invariant.lower.size ∙ c.requires in
    let lowest = low _ _ _ _ _ c.loop-place.invariant h at in
    elim c.if-coherent.branch [
      | then-coherent w ↦
          rw w.out-is (again_coherent _ _ _ _ _ c.loop-place.invariant h at told w.if-coherent.true w.write_segment.ensures)
      | else-coherent+then-below w ↦
          rw w.out-is
          (again_closed _ _ _ _ _ c.loop-place.invariant h at told w.if-coherent.false w.if-below.true
          (stored s.layout.mode lowest c.continual_times-continual.ensures room s.spectra.now s.signs.now _ (by_window s.captured _ _) w.write_point.ensures))
      | else-coherent+else-below w ↦
          rw w.out-is (again_open _ _ _ _ _ c.loop-place.invariant h at told w.if-coherent.false w.if-below.false)
    ]

pub returns : goal.returns
returns c =
    all _ _ _ _ _ c.loop-place.invariant c.loop-place-test.false c.requires
