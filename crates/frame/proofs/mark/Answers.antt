-- `frame::mark` meets its contract: what is left of the row marks what is marked so far into the whole.
-- Assumes nothing.
use Prim.Native.Nat.{ℕ, ◌≤◌}
use mathlib.Core.Path.{sym, ap, ◌∙◌}
use lib.ListN.{length, drop_of_length-le}
use Rattle.frame.specs.Inner.{marked}
use Rattle.frame.proofs.Marked.{mark_one}
use native.Mathlib.Omega.{arith}
use Rattle.frame.proofs.mark.Goals as goal

pub loop-place-preserved : goal.loop-place-preserved
loop-place-preserved c = c.loop-place.invariant ∙ mark_one _ _ _ _ c.loop-place-test.true

pub returns : goal.returns
unfolding marked
returns c =
    let l = c.loop-place in
    let all : length c.args.row.now ≤ l.place-index = omega arith in
    sym (l.invariant ∙ ap (λ z. marked z c.from-byte.result l.out) (drop_of_length-le _ all))
    ∙ ap (λ (b : ℕ). marked c.args.row.now b c.args.out.now) c.from-byte.ensures
