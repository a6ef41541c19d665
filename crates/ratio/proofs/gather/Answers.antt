-- `ratio::gather` meets its contract: two symbols at a time.
-- Assumes nothing.
use Prim.Native.Nat.{◌+◌}
use mathlib.Core.Path.{◌≡◌}
use native.Mathlib.Omega.{arith}
use Rattle.ratio.proofs.Slots.{gather_two}
use Rattle.ratio.proofs.gather.Goals.{then-t-bins, else-t-bins}
use Rattle.ratio.proofs.gather.Goals as goal

pub loop-t-preserved : goal.loop-t-preserved
loop-t-preserved c =
    let behind : c.if-t-bins.next ≡ c.loop-t.t + 1 = elim c.if-t-bins.branch [
      | then-t-bins w ↦ w.next-is
      | else-t-bins w ↦ absurd (omega (arith, w.if-t-bins.false))
    ] in
    (omega arith, gather_two _ _ _ _ _ _ c.loop-t.invariant.1 (rw behind at c.spread_two.ensures))
