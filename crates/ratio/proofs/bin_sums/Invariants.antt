-- `ratio::bin_sums` meets its contract: the sums of the first products, and those left over one by one.
-- Assumes nothing.
use Rattle.ratio.specs.Inner.{SummedTo}
use Rattle.ratio.proofs.bin_sums.Given as goal

abbrev pub invariant-loop-k : goal.invariant-loop-k
invariant-loop-k l = SummedTo l.pairs l.k l.sums
