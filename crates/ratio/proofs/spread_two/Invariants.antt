-- `ratio::spread_two` meets its contract: slot by slot.
-- Assumes nothing.
use Prim.Native.Nat.{◌*◌}
use mathlib.Core.Path.{◌≡◌}
use lib.ListN.{drop}
use Rattle.ratio.specs.Inner.{Spread}
use Rattle.ratio.proofs.spread_two.Given as goal

abbrev pub invariant-loop-i : goal.invariant-loop-i
invariant-loop-i l =
    (l.one ≡ drop (2 * l.at) l.spectra)
    × (l.two ≡ drop (2 * l.next) l.spectra)
    × Spread l.spectra l.at l.next l.i l.bins.slot l.t l.initial.block l.block
