-- `segment_list::answer_pieces` meets its contract: each piece's text is stored behind those before it, until one is cut off or the last line is answered.
-- Assumes nothing.
use Prim.Native.Nat.{◌-◌, ◌≤◌}
use lib.ListN.{length, take}
use Rattle.segment_list.specs.Feed.{Takes}
use Rattle.segment_list.proofs.answer_pieces.Given as goal

abbrev pub invariant-loop-from : goal.invariant-loop-from
invariant-loop-from l =
    (l.from ≤ length l.input) × (l.to ≤ length l.out)
    × Takes l.initial.held (take l.from l.input) l.initial.out 0 l.held l.to l.out

abbrev pub decreases-loop-from : goal.decreases-loop-from
decreases-loop-from l = length l.input - l.from
