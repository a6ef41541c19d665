-- `ratio::bin_sums` meets its contract: the sums of the first products, and those left over one by one.
-- Assumes nothing.
use Prim.Native.Nat.{suc}
use mathlib.Core.Path.{◌≡◌}
use Rattle.spectra.specs.Spectra.{spectra_in}
use lib.ListN.{length}
use Rattle.ratio.proofs.Terms.{sum_step, sum_all}
use native.Mathlib.Omega.{arith}
use Rattle.ratio.proofs.bin_sums.Goals as goal

pub loop-k-preserved : goal.loop-k-preserved
loop-k-preserved c = sum_step _ c.loop-k.k _ _ _ _ c.pair_at-x.ensures c.pair_at-y.ensures c.loop-k.invariant c.step-sums.ensures

pub returns : goal.returns
returns c =
    let l = c.loop-k in
    let xs = c.args.pairs.now in
    let all : suc l.k ≡ spectra_in 1 (length xs) = omega arith in
    rw all at (sum_all xs l.k l.sums l.invariant)
