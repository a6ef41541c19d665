-- `ratio::gather` meets its contract: two symbols at a time.
-- Assumes nothing.
use Prim.Native.Nat.{◌-◌, ◌≤◌}
use Rattle.ratio.specs.Inner.{Gathered}
use Rattle.ratio.proofs.gather.Given as goal

abbrev pub invariant-loop-t : goal.invariant-loop-t
invariant-loop-t l = (l.t ≤ l.bins.count) × Gathered l.spectra l.len l.bins l.t l.block

abbrev pub decreases-loop-t : goal.decreases-loop-t
decreases-loop-t l = l.bins.count - l.t
