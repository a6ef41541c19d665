-- `frame::mark` meets its contract: what is left of the row marks what is marked so far into the whole.
-- Assumes nothing.
use mathlib.Core.Path.{◌≡◌}
use lib.ListN.{drop}
use Rattle.frame.specs.Inner.{marked}
use Rattle.frame.proofs.mark.Given as goal

abbrev pub invariant-loop-place : goal.invariant-loop-place
invariant-loop-place l = marked l.row l.byte l.initial.out ≡ marked (drop l.place-index l.row) l.byte l.out
