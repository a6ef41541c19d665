-- `replay::compare_one` meets its contract.
-- Assumes nothing.
use Rattle.std.proofs.Common.{nat_eq}
use Rattle.tally.specs.Counts.{single_counted}
use Rattle.replay.proofs.compare_one.Goals as goal

pub returns : goal.returns
returns g c = single_counted _ _ _ _ (λ j. nat_eq (c.bits.ensures j) (c.entry.ensures j)) c.entry-2.ensures
