-- `ratio::BinSums::add_terms` meets its contract: term by term.
-- Assumes nothing.
use mathlib.Core.Path.{refl, ◌∙◌}
use Rattle.ieee.specs.Sums.{total}
use Rattle.complex.specs.Totals.{totals}
use Rattle.ratio.proofs.Terms.{total_last, totals_last}
use Rattle.ratio.proofs.BinSums.add_terms.Goals as goal

pub loop-i-init : goal.loop-i-init
unfolding total totals
loop-i-init c = (refl, refl)

pub loop-i-preserved : goal.loop-i-preserved
loop-i-preserved c = (
  c.add-num.ensures ∙ totals_last _ _ c.loop-i.i _ _ c.loop-i.invariant.0 c.pair_at.ensures,
  total_last _ _ c.loop-i.i _ _ c.loop-i.invariant.1 refl,
)
