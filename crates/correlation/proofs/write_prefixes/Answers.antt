-- `correlation::write_prefixes` meets its contract: each sample's product and energy come to the sums, and these to the scratch.
-- Assumes nothing.
use Rattle.std.proofs.Common.{arith, length-set}
use Rattle.complex.specs.Complex.{of64}
use Rattle.correlation.proofs.Prefixed.{start, again, product_by, energy_by}
use Rattle.correlation.proofs.write_prefixes.Goals as goal

pub loop-i-init : goal.loop-i-init
loop-i-init c = start c.args.n c.args.samples.now c.args.scratch.now (omega arith)

pub loop-i-preserved : goal.loop-i-preserved
loop-i-preserved c =
    let x = c.args.samples.now in
    let i = c.loop-i.i in
    let a = c.pair_at-a.ensures in
    let b = c.pair_at-b.ensures in
    again c.args.n x i c.loop-i.scratch _ _ _ (of64 c.widen-p.result) _ (omega arith) (omega (arith, simp length-set at c.loop-i.auto.scratch))
    (product_by c.args.n x i _ _ a b _ _ _ c.conj.ensures c.mul.ensures c.widen-p.ensures)
    (energy_by c.args.n x i _ _ a b _ _ _ c.norm_sqr.ensures c.norm_sqr-in-loop-i.ensures c.from.ensures)
    c.loop-i.invariant
