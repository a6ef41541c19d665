-- `ballots::walk_segment` meets its contract: i pilots are joined, and the next one is at hand.
-- Assumes nothing.
use Prim.Native.Nat.{◌+◌, ◌-◌, ◌*◌}
use Rattle.ballots.specs.Inner.{PilotAt, Walks}
use Rattle.ballots.proofs.Signed.walk_segment.Given as goal

abbrev pub invariant-loop-i : goal.invariant-loop-i
invariant-loop-i l =
    PilotAt l.self.y.now l.self.signs.now (l.fn.lowest.0 + 12 * (l.i - 1)) l.pilot
    × Walks l.initial.run l.self.y.now l.self.signs.now l.fn.lowest.0 (l.i - 1) l.run
