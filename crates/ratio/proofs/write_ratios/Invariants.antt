-- `ratio::write_ratios` meets its contract: the output is filled from the front with the ratios of the bins, some bins at a time.
-- Assumes nothing.
use Prim.Native.Nat.{◌-◌, ◌≤◌}
use mathlib.Core.List.{◌++◌}
use mathlib.Core.Path.{◌≡◌}
use lib.ListN.{length, drop}
use Rattle.lists.specs.Lists.{up_to}
use Rattle.spectra.specs.Spectra.{bin_pairs}
use Rattle.ratio.specs.Ratio.{ratio_of}
use Rattle.ratio.proofs.write_ratios.Given as goal

abbrev pub invariant-loop-first : goal.invariant-loop-first
invariant-loop-first l =
    (l.first ≤ l.len)
    × (16512 ≡ length l.block)
    × (l.out ≡ up_to (λ b. ratio_of (bin_pairs l.len l.spectra b)) l.first ++ drop l.first l.initial.out)

abbrev pub decreases-loop-first : goal.decreases-loop-first
decreases-loop-first l = l.len - l.first
