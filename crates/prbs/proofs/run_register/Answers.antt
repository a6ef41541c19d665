-- `prbs::run_register` meets its contract: the register in hand is the start's after the steps so far, and the output is filled from the front.
-- Assumes nothing.
use Prim.Native.Nat.{ℕ, ◌+◌}
use mathlib.Core.List.{List}
use mathlib.Core.Path.{◌≡◌, refl, ◌∙◌, ap}
use native.Mathlib.Numerals.{add-one}
use native.Mathlib.Omega.{arith}
use lib.ListN.{get_or}
use Rattle.lists.specs.Fill.{fill_again}
use Rattle.prbs.specs.Signs.{stepped, after}
use Rattle.prbs.proofs.run_register.Goals as goal

-- one step more
after_more : (start register next : List ℕ) (i : ℕ) → register ≡ after i start → next ≡ stepped register → next ≡ after (i + 1) start
unfolding after
after_more start register next i p q = q ∙ rw (p, add-one)

pub loop-sign-init : goal.loop-sign-init
unfolding after
loop-sign-init c = (refl, refl)

pub loop-sign-preserved : goal.loop-sign-preserved
loop-sign-preserved c =
    let inv = c.loop-sign.invariant in
    let s = c.step.ensures in
    (after_more _ _ _ _ inv.0 s.register, fill_again _ _ _ _ _ inv.1 (s.sign ∙ ap (λ (l : List ℕ). get_or l 10 0) inv.0) (omega arith))
