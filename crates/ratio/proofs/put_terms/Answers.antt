-- `ratio::put_terms` meets its contract: term by term.
-- Assumes nothing.
use mathlib.Core.Path.{ap, ◌∙◌}
use Rattle.ratio.specs.Ratio.{square_of, size_of}
use Rattle.ratio.proofs.Terms.{product_of, put_again}
use native.Mathlib.Omega.{arith}
use Rattle.ratio.proofs.put_terms.Goals as goal

pub loop-i-preserved : goal.loop-i-preserved
loop-i-preserved c =
    let own =
    product_of c.args.pairs.now c.loop-i.i _ _ _ _ c.pair_at-y.ensures c.pair_at-x.ensures
    c.conj.ensures c.mul-p.ensures in
    rw c.put_pair.ensures
    (put_again _ _ _ _ _ _ (omega arith) (omega arith) (c.mul.ensures ∙ ap square_of own) (c.norm_sqr.ensures ∙ ap size_of own) c.loop-i.invariant)
