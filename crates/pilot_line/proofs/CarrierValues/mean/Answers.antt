-- `pilot_line::CarrierValues::mean` meets its contract: the values are summed in their order, and divided by their number.
-- Assumes nothing.
use Rattle.pilot_line.proofs.Summing.{mean_is}
use Rattle.pilot_line.proofs.CarrierValues.mean.Goals as goal

pub returns : goal.returns
returns c = mean_is _ _ c.loop-i.invariant c.loop-i.auto.i-end c.loop-i-test.false c.unscale.ensures
