-- A segment's AC1 row: it is short, its places lie in the segment, and its bins are those of the definition.
-- Assumes nothing.
use Prim.Native.Nat.{ℕ, ◌+◌, ◌*◌, ◌≤◌, ◌<◌}
use mathlib.Core.Bool.{true}
use mathlib.Core.List.{List, map}
use mathlib.Core.Path.{◌≡◌, refl, sym, ap, ◌∙◌}
use native.Mathlib.Nat.{mod-lt}
use native.Mathlib.Omega.{arith}
use borrow.Author.Tests.{leb-true}
use lib.Dec.{leb}
use lib.ListN.{length, get_or, get_or-map}
use Rattle.lists.specs.Tests.{all_below, all_below_at}
use Rattle.params.specs.declared.Mode.{Mode}
use Rattle.params.specs.declared.Mode.TheVariants.{M1, M2, M3}
use Rattle.params.specs.declared.SegmentKind.TheVariants.{Coherent}
use Rattle.params.specs.Params.{carriers_per_segment, total_carriers, fft_size}
use Rattle.params.specs.Laws.{sized}
use Rattle.tables.specs.Places.{ac1_of}
use Rattle.tables.specs.Rule.{ac1_below}
use Rattle.ofdm.specs.Band.{place_of, bin_of}
use Rattle.ofdm.specs.Laws.{carrier_below}
use Rattle.shift.specs.Inner.{segment_bins}

-- no row has more than eight places
rows_few : (mode : Mode) → all_below (λ seg. leb (length (ac1_of mode Coherent seg)) 8) 13 ≡ true
rows_few M1 = refl
rows_few M2 = refl
rows_few M3 = refl

pub row_few : (mode : Mode) (seg : ℕ) → seg < 13 → length (ac1_of mode Coherent seg) ≤ 8
row_few mode seg h = leb-true _ _ (all_below_at (λ seg. leb (length (ac1_of mode Coherent seg)) 8) 13 (rows_few mode) seg h)

pub bin_below : (mode : Mode) (k : ℕ) → bin_of mode k < fft_size mode
bin_below mode k = mod-lt _ (omega (arith, (sized mode).band, (sized mode).within))

-- the bin of carrier p of the segment at a place of the band, and the bins of a row
abbrev pub bin_at : Mode → ℕ → ℕ → ℕ
bin_at mode place p = bin_of mode (place * carriers_per_segment mode + p)

abbrev pub bins_at : Mode → ℕ → List ℕ → List ℕ
bins_at mode place row = map (bin_at mode place) row

-- the row of a segment: its places lie in the band, and their bins are the segment's
module _ (mode : Mode) (seg place : ℕ) (row : List ℕ) (in_table : seg < 13) (listed : row ≡ ac1_of mode Coherent seg) (placed : place ≡ place_of seg)
    (known : place < 13) where
  pub inside : (i : ℕ) → i < length row → get_or row i 0 < carriers_per_segment mode
  inside = rw listed (ac1_below mode Coherent seg in_table)

  pub bins_are : bins_at mode place row ≡ segment_bins mode seg
  unfolding segment_bins
  bins_are = rw (listed, placed)

  module _ (i k : ℕ) (h : i < length row) (e : k ≡ place * carriers_per_segment mode + get_or row i 0) where
    pub carrier_inside : k < total_carriers mode
    carrier_inside = omega (arith, carrier_below mode place _ known (inside i h), (sized mode).band)

    pub bin_stored : (bin : ℕ) → bin ≡ bin_of mode k → bin ≡ get_or (bins_at mode place row) i (bin_at mode place 0)
    bin_stored bin b = b ∙ ap (bin_of mode) e ∙ sym (get_or-map (bin_at mode place) row i 0)
