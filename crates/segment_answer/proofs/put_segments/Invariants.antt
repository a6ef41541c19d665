-- `segment_answer::put_segments`: the lines of the places passed are stored one behind another.
-- Assumes nothing.
use Rattle.std.proofs.Common.{◌+◌, ◌*◌, ◌≤◌}
use Rattle.lists.specs.Lists.{joined, range}
use Rattle.text.specs.Put.{Put}
use Rattle.segment_answer.specs.Pieces.{line_of}
use Rattle.segment_answer.proofs.put_segments.Given as goal

abbrev pub invariant-loop-place : goal.invariant-loop-place
invariant-loop-place l =
    (l.to ≤ l.at + 37 * l.place) × Put l.initial.out l.at (joined (line_of l.question) (range l.place)) l.to l.out
