-- `ratio::front_sums` meets its contract: sixteen products at a time, in their order.
-- Assumes nothing.
use mathlib.Core.Path.{refl}
use Rattle.ratio.proofs.Terms.{sum_begin, from_pair, sum_front}
use native.Mathlib.Omega.{arith}
use Rattle.std.proofs.Common.{rules}
use Rattle.ratio.proofs.front_sums.Goals as goal

pub loop-from-init : goal.loop-from-init
loop-from-init c = (omega arith, refl, refl, sum_begin _ _ c.zero-sums.ensures)

pub loop-from-preserved : goal.loop-from-preserved
loop-from-preserved c =
    let l = c.loop-from in
    let put = c.put_terms in (
      omega arith,
      search (rules, l.invariant.1),
      search (rules, l.invariant.2),
      sum_front _ _ _ _ _ _ _ _ _ _ (omega arith) (omega arith) (omega arith) put.auto.squares put.auto.sizes
          l.invariant.3 (rw (from_pair c.args.pairs.now l.from) at put.ensures) c.add_terms-sums.ensures,
    )

pub returns-2 : goal.returns-2
returns-2 c =
    let l = c.loop-from in
    let put = c.put_terms in
    sum_front _ _ _ _ _ _ _ _ _ _ (omega arith) (omega arith) (omega arith) put.auto.squares put.auto.sizes l.invariant.3
    (rw (from_pair c.args.pairs.now l.from) at put.ensures) c.add_terms-sums.ensures
