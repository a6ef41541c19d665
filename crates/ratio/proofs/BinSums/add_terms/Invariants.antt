-- `ratio::BinSums::add_terms` meets its contract: term by term.
-- Assumes nothing.
use mathlib.Core.Path.{◌≡◌}
use lib.Ieee.{nan, binary32}
use lib.ListN.{get_or}
use Rattle.ieee.specs.Sums.{total}
use Rattle.lists.specs.Lists.{up_to}
use Rattle.complex.specs.Complex.{of32}
use Rattle.complex.specs.Totals.{totals}
use Rattle.spectra.specs.Spectra.{pair_at}
use Rattle.ratio.proofs.BinSums.add_terms.Given as goal

abbrev pub invariant-loop-i : goal.invariant-loop-i
invariant-loop-i l =
    (of32 l.num ≡ totals binary32 (of32 l.initial.num) (up_to (pair_at l.squares) l.i))
    × (l.den ≡ total binary32 l.initial.den (up_to (λ k. get_or l.sizes k nan) l.i))
