-- `ratio::put_terms` meets its contract: term by term.
-- Assumes nothing.
use Rattle.ratio.specs.Inner.{TermsPut}
use Rattle.ratio.proofs.put_terms.Given as goal

abbrev pub invariant-loop-i : goal.invariant-loop-i
invariant-loop-i l = TermsPut l.pairs l.i l.squares l.sizes
