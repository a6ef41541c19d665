-- `segments::Output::answer` meets its contract: each turn takes a byte at least, and hands on the line that is open after the bytes taken.
-- Assumes nothing.
use Rattle.std.proofs.Common.{◌-◌, ◌≤◌, length, take}
use Rattle.segment_list.specs.Feed.{Leaves}
use Rattle.segments.proofs.Output.answer.Given as goal

abbrev pub invariant-loop-from : goal.invariant-loop-from
invariant-loop-from l = record {
  within : l.from ≤ length l.bytes;
  leaves : Leaves l.initial.held (take l.from l.bytes) l.held;
}

abbrev pub decreases-loop-from : goal.decreases-loop-from
decreases-loop-from l = length l.bytes - l.from
