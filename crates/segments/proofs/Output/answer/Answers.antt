-- `segments::Output::answer` meets its contract: each turn hands on the line that is open after the bytes taken.
-- Assumes nothing.
use Rattle.std.proofs.Common.{arith}
use Rattle.segment_list.specs.Fed.{leaves_none, leaves_slice}
use Rattle.segments.proofs.Output.answer.Goals as goal

pub loop-from-init : goal.loop-from-init
loop-from-init c = record { within = omega arith; leaves = leaves_none _ }

pub loop-from-preserved : goal.loop-from-preserved
loop-from-preserved c =
    let fed = c.feed-fed.ensures in
    let on = fed.progress (omega arith) c.loop-from-test.true in
    record {
      within = fed.within (omega arith);
      leaves = leaves_slice c.args.bytes.now c.loop-from.from c.feed-fed.result.used (omega arith) c.loop-from.invariant.leaves fed.takes.leaves;
    }
