-- `ballots::phase_metric` meets its contract: the run is over the pilots of the segments passed.
-- Assumes nothing.
use Rattle.params.specs.Params.{kind_codes}
use Rattle.ballots.proofs.Metric.{WalkedTo}
use Rattle.ballots.proofs.Signed.phase_metric.Given as goal

abbrev pub invariant-loop-place : goal.invariant-loop-place
invariant-loop-place l = WalkedTo l.self.layout.mode (kind_codes l.self.layout.kinds) l.self.y.now l.phase.number l.c l.place l.run
