-- `ratio::front_sums` meets its contract: sixteen products at a time, in their order.
-- Assumes nothing.
use Prim.Native.Nat.{◌-◌, ◌≤◌}
use mathlib.Core.Path.{◌≡◌}
use lib.ListN.{length}
use Rattle.ratio.specs.Inner.{SummedTo}
use Rattle.ratio.proofs.front_sums.Given as goal

abbrev pub invariant-loop-from : goal.invariant-loop-from
invariant-loop-from l =
    (l.from ≤ l.n) × (32 ≡ length l.squares) × (16 ≡ length l.sizes) × SummedTo l.pairs l.from l.sums

abbrev pub decreases-loop-from : goal.decreases-loop-from
decreases-loop-from l = l.n - l.from
