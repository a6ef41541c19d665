-- `chanest::Capture::write_segment` meets its contract: each turn stores the point that the times of its carrier's pilots give.
-- Assumes nothing.
use Rattle.pilot_times.specs.Window.{scattered_offsets}
use Rattle.chanest.specs.Grid.{carrier_of, back_of}
use Rattle.chanest.specs.Inner.{Written}
use Rattle.chanest.proofs.Points.{window_at}
use Rattle.chanest.proofs.Capture.write_segment.Given as goal

abbrev pub invariant-loop-i : goal.invariant-loop-i
invariant-loop-i l =
    let win = l.self.win in
    Written (λ j. window_at win l.self.spectra.now l.self.signs.now (carrier_of j) (scattered_offsets win.current (back_of win.current j)))
    l.fn.from.0 l.i l.initial.out l.out
