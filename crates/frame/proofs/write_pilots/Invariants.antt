-- `frame::write_pilots` meets its contract: the output is filled from the front.
-- Assumes nothing.
use mathlib.Core.List.{◌++◌}
use mathlib.Core.Path.{◌≡◌}
use lib.ListN.{drop}
use Rattle.lists.specs.Lists.{up_to}
use Rattle.frame.specs.Inner.{pilot_byte}
use Rattle.frame.proofs.write_pilots.Given as goal

abbrev pub invariant-loop-p : goal.invariant-loop-p
invariant-loop-p l = l.out ≡ up_to (pilot_byte l.kind l.phase.number) l.p ++ drop l.p l.initial.out
