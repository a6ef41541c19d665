-- `correlation::write_prefixes`: the scratch holds the prefix sums up to the samples passed, and the locals are the last of them.
-- Assumes nothing.
use Rattle.correlation.proofs.Prefixed.{Writing}
use Rattle.correlation.proofs.write_prefixes.Given as goal

abbrev pub invariant-loop-i : goal.invariant-loop-i
invariant-loop-i l = Writing l.n l.samples l.i l.scratch l.re l.im l.energy
