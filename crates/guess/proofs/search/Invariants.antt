-- `guess::search`: the best so far is the best of the modes passed.
-- Assumes nothing.
use Rattle.std.proofs.Common.{◌≡◌, take, None}
use Rattle.guess.specs.Guess.{scan, tried_mode}
use Rattle.guess.proofs.search.Given as goal

abbrev pub invariant-loop-mode : goal.invariant-loop-mode
invariant-loop-mode l = l.best ≡ scan (tried_mode l.samples l.guards) None (take l.mode-index l.modes)
