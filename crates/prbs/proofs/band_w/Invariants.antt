-- `prbs::band_w` meets its contract: the band is written place by place, and then its edge.
-- Assumes nothing.
use Prim.Native.Nat.{ℕ}
use mathlib.Core.Path.{◌≡◌}
use lib.ListN.{length}
use Rattle.lists.specs.Select.{length_up_to}
use Rattle.params.specs.declared.Mode.{Mode}
use Rattle.params.specs.Params.{carriers_per_segment}
use Rattle.prbs.specs.Signs.{segment_signs}
use Rattle.ofdm.specs.Bands.{WrittenTo}
use Rattle.prbs.proofs.band_w.Given as goal

pub size : (mode : Mode) (seg : ℕ) → length (segment_signs mode seg) ≡ carriers_per_segment mode
unfolding segment_signs
size mode seg = length_up_to _ (carriers_per_segment mode)

abbrev pub invariant-loop-place : goal.invariant-loop-place
invariant-loop-place l = WrittenTo l.mode (segment_signs l.mode) (size l.mode) l.initial.out l.c l.place l.out
