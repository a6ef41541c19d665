-- `shift::put_pattern` meets its contract: the bins of the segments so far are stored, and the edge behind them all.
-- Assumes nothing.
use Rattle.shift.proofs.Segments.{Filled}
use Rattle.shift.proofs.put_pattern.Given as goal

abbrev pub invariant-loop-seg : goal.invariant-loop-seg
invariant-loop-seg l = Filled l.mode l.initial.out l.seg l.at l.out
