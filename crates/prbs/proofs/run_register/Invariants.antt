-- `prbs::run_register` meets its contract: the register in hand is the start's after the steps so far, and the output is filled from the front.
-- Assumes nothing.
use mathlib.Core.List.{◌++◌}
use mathlib.Core.Path.{◌≡◌}
use lib.ListN.{drop}
use Rattle.lists.specs.Lists.{up_to}
use Rattle.prbs.specs.Signs.{after, sign_after}
use Rattle.prbs.proofs.run_register.Given as goal

abbrev pub invariant-loop-sign : goal.invariant-loop-sign
invariant-loop-sign l =
    (l.register.bits ≡ after l.sign-index l.initial.register.bits)
    × (l.out ≡ up_to (sign_after l.initial.register.bits) l.sign-index ++ drop l.sign-index l.initial.out)
