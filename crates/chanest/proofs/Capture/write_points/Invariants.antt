-- `chanest::Capture::write_points` meets its contract: the points of the places passed are written, and `below` tells whether the last one is coherent.
-- Assumes nothing.
use Rattle.params.specs.Params.{kind_codes}
use Rattle.chanest.proofs.Band.{WrittenTo}
use Rattle.chanest.proofs.Capture.write_points.Given as goal

abbrev pub invariant-loop-place : goal.invariant-loop-place
invariant-loop-place l =
    WrittenTo l.self.layout.mode (kind_codes l.self.layout.kinds) l.self.spectra.now l.self.win.current l.initial.out l.place l.below l.out
