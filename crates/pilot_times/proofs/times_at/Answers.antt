-- `pilot_times::times_at` meets its contract: the spectra found lie in a window of at most 1,024, so their offsets can be summed.
-- Assumes nothing.
use mathlib.Core.Path.{◌∙◌}
use Rattle.pilot_times.specs.Summing.{spread_is}
use Rattle.pilot_times.proofs.times_at.Goals as goal

pub returns : goal.returns
returns c =
    let spread = c.spread_about-spread.ensures ∙ spread_is c.args.win c.sent_in-sent.result c.mean_offset-mean.result in
    record { reached = c.sent_in-sent.ensures; timed = record { middle = c.mean_offset-mean.ensures; width = spread } }
