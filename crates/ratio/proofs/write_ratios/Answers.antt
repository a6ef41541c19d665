-- `ratio::write_ratios` meets its contract: the output is filled from the front with the ratios of the bins, some bins at a time.
-- Assumes nothing.
use Prim.Native.Nat.{◌+◌}
use mathlib.Core.Path.{◌≡◌}
use Rattle.lists.specs.Fill.{fill_done}
use Rattle.ratio.specs.Ratio.{bin_ratios}
use Rattle.ratio.proofs.Slots.{block_more}
use native.Mathlib.Omega.{arith}
use Rattle.std.proofs.Common.{rules}
use Rattle.ratio.proofs.write_ratios.Goals as goal

pub loop-first-preserved : goal.loop-first-preserved
loop-first-preserved c =
    let l = c.loop-first in
    let full : l.first + c.min-width.result ≡ l.first + c.min-most.result = omega arith in (
      omega arith,
      search (rules, l.invariant.1),
      rw full at (block_more _ _ _ _ _ _ _ c.gather.ensures (omega (arith, c.requires.bins)) l.invariant.2 c.write_block.ensures),
    )

pub returns : goal.returns
unfolding bin_ratios
returns c =
    fill_done _ _ _ c.args.len c.loop-first.first c.loop-first.invariant.2 (omega (arith, c.requires.bins)) (omega arith)

pub returns-2 : goal.returns-2
unfolding bin_ratios
returns-2 c =
    let l = c.loop-first in
    fill_done _ _ _ c.args.len (l.first + c.min-width.result)
    (block_more _ _ _ _ _ _ _ c.gather.ensures (omega (arith, c.requires.bins)) l.invariant.2 c.write_block.ensures)
    (omega (arith, c.requires.bins)) (omega arith)
