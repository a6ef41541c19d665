-- `guess::try_mode`: the best so far is the best of the guards passed.
-- Assumes nothing.
use Rattle.std.proofs.Common.{◌≡◌, take}
use Rattle.guess.specs.Guess.{scan, tried_guard}
use Rattle.guess.proofs.try_mode.Given as goal

abbrev pub invariant-loop-guard : goal.invariant-loop-guard
invariant-loop-guard l = l.best ≡ scan (tried_guard l.samples l.mode) l.initial.best (take l.guard-index l.guards)
