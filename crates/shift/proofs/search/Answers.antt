-- `shift::search` meets its contract: the best so far is the winner among the shifts passed.
-- Assumes nothing.
use Prim.Native.Nat.{◌+◌, ◌*◌}
use mathlib.Core.Path.{◌≡◌}
use native.Mathlib.Omega.{arith}
use Rattle.shift.proofs.Finding.{search_begin, search_take, search_keep, search_done}
use Rattle.shift.proofs.search.Goals as goal
use Rattle.shift.proofs.search.Goals.{then-sum-best, else-sum-best}

pub loop-j-init : goal.loop-j-init
loop-j-init c = search_begin _ _ _

pub loop-j-preserved : goal.loop-j-preserved
loop-j-preserved c =
    let summed = c.pattern_sum-sum in
    elim c.if-sum-best.branch [
      | then-sum-best w ↦ rw w.best-is (search_take _ _ _ _ _ c.loop-j.invariant c.requires (omega arith) _ summed.ensures w.if-sum-best.true)
      | else-sum-best w ↦ rw w.best-is (search_keep _ _ _ _ _ c.loop-j.invariant c.requires (omega arith) _ summed.ensures w.if-sum-best.false)
    ]

pub returns : goal.returns
returns c =
    let all : c.loop-j.j ≡ 2 * c.args.bound + 1 = omega arith in
    search_done _ _ _ _ (rw all at c.loop-j.invariant)
