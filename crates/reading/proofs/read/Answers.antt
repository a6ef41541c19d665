-- `reading::read` meets its contract: what a read counts and consumes.
-- Assumes nothing.
use Rattle.std.proofs.Common.{rules, length}
use Rattle.reading.specs.Laws.{turn_within, turn_consumes}
use Rattle.reading.proofs.read.Goals as goal

pub returns : goal.returns
returns g c = rw c.told.ensures (record {
  within = turn_within c.read.result (length c.read.new.buf) (search rules);
  bytes = turn_consumes c.read.result _ _ c.read.new.buf c.read.ensures.bytes;
})
