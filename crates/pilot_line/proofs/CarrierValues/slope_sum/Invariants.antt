-- `pilot_line::CarrierValues::slope_sum` meets its contract: the points are summed in their order, each leaning as the definition has it.
-- Assumes nothing.
use mathlib.Core.Path.{◌≡◌}
use Rattle.complex.specs.Complex.{of32}
use Rattle.pilot_line.proofs.Summing.{sum_of, leans}
use Rattle.pilot_line.proofs.CarrierValues.slope_sum.Given as goal

abbrev pub invariant-loop-i : goal.invariant-loop-i
invariant-loop-i l =
    of32 l.slope
    ≡ sum_of (leans l.self.win l.self.spectra.now l.self.k l.self.inverse l.self.times.mean (of32 l.middle)) l.self.times.sent l.i
