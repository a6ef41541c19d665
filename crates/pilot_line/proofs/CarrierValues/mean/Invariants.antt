-- `pilot_line::CarrierValues::mean` meets its contract: the values are summed in their order, and divided by their number.
-- Assumes nothing.
use mathlib.Core.Path.{◌≡◌}
use Rattle.complex.specs.Complex.{of32}
use Rattle.pilot_line.specs.Inner.{value_in}
use Rattle.pilot_line.proofs.Summing.{sum_of}
use Rattle.pilot_line.proofs.CarrierValues.mean.Given as goal

abbrev pub invariant-loop-i : goal.invariant-loop-i
invariant-loop-i l = of32 l.sum ≡ sum_of (value_in l.self.win l.self.spectra.now l.self.k l.self.inverse) l.self.times.sent l.i
