-- `pilot_line::CarrierValues::slope_sum` meets its contract: the points are summed in their order, each leaning as the definition has it.
-- Assumes nothing.
use Rattle.pilot_line.proofs.Summing.{slope_is}
use Rattle.pilot_line.proofs.CarrierValues.slope_sum.Goals as goal

pub returns : goal.returns
returns c = slope_is _ _ _ _ _ _ _ c.loop-i.invariant c.loop-i.auto.i-end c.loop-i-test.false
