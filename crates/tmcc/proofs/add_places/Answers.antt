-- `tmcc::add_places` meets its contract: the sum so far, with the terms ahead, is the whole.
-- Assumes nothing.
use native.Mathlib.Omega.{arith}
use Rattle.tmcc.proofs.Adding.{begin, further, done}
use Rattle.tmcc.proofs.add_places.Goals as goal

pub loop-p-init : goal.loop-p-init
loop-p-init c = begin _ _ _ _ _

pub loop-p-preserved : goal.loop-p-preserved
loop-p-preserved c =
    further _ _ _ _ _ _ _ c.loop-p.invariant _ _ c.total_carriers-len.ensures c.band_carrier-k.ensures _ _ _ _ c.loop-p-test.true
    c.pair_at-later.ensures c.pair_at-earlier.ensures c.conj.ensures c.mul-product.ensures

pub returns : goal.returns
returns c = done _ _ _ _ _ _ c.loop-p.p-index c.loop-p.invariant (omega arith)
