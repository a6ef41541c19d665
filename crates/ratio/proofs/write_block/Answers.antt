-- `ratio::write_block` meets its contract: bin by bin.
-- Assumes nothing.
use native.Mathlib.Omega.{arith}
use Rattle.lists.specs.Fill.{fill_again}
use Rattle.ratio.proofs.Slots.{put_part}
use Rattle.ratio.proofs.write_block.Goals as goal

pub loop-i-preserved : goal.loop-i-preserved
loop-i-preserved c = fill_again _ _ _ _ _ c.loop-i.invariant c.ratio_in.ensures (omega arith)

pub returns : goal.returns
returns c =
    put_part _ c.args.out.now c.loop-i.ratio-items c.args.bins.first c.args.bins.width c.loop-i.i c.requires.inside c.loop-i.invariant
    c.loop-i.auto.i-end c.loop-i-test.false
