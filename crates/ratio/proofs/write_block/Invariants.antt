-- `ratio::write_block` meets its contract: bin by bin.
-- Assumes nothing.
use Prim.Native.Nat.{◌*◌}
use mathlib.Core.List.{◌++◌}
use mathlib.Core.Path.{◌≡◌}
use lib.ListN.{drop}
use Rattle.lists.specs.Lists.{up_to}
use Rattle.spectra.specs.Spectra.{column}
use Rattle.ratio.specs.Ratio.{ratio_of}
use Rattle.ratio.proofs.write_block.Given as goal

abbrev pub invariant-loop-i : goal.invariant-loop-i
invariant-loop-i l =
    l.ratio-items ≡ up_to (λ k. ratio_of (column l.block 1 (k * l.bins.slot) l.bins.count)) l.i ++ drop l.i l.initial.ratio-items
