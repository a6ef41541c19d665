-- What `add_places` keeps: the sum so far, with the terms ahead, is the whole.
-- Assumes nothing.
use Prim.Native.Nat.{ℕ, ◌+◌, ◌*◌, ◌≤◌, ◌<◌}
use mathlib.Core.List.{List}
use mathlib.Core.Path.{◌≡◌, refl}
use native.Mathlib.Numerals.{add-one}
use native.Mathlib.Omega.{arith}
use lib.Ieee.{Float, binary32, add}
use lib.ListN.{length, get_or, drop, drop_of_length-le}
use lib.Seq.{drop-cons}
use Rattle.ieee.specs.Sums.{total}
use Rattle.params.specs.declared.Mode.{Mode}
use Rattle.params.specs.Params.{carriers_per_segment, total_carriers}
use Rattle.ofdm.specs.Laws.{segment_ends}
use Rattle.complex.specs.Complex.{Pair, product, conjugate}
use Rattle.spectra.specs.Spectra.{pair_at}
use Rattle.tmcc.specs.Tmcc.{soft_term}
use Rattle.tmcc.specs.Inner.{Addable, terms_at, added_to}

-- the carrier at a place of the segment lies in the band
pub in_band : {mode : Mode} {place : ℕ} {places : List ℕ} {n : ℕ} → Addable mode place places n → (i k : ℕ) → i < length places
    → k ≡ place * carriers_per_segment mode + get_or places i 0 → k < total_carriers mode
in_band {mode} {place} h i k l e = omega (arith, segment_ends mode place h.in_band, h.in_segment i l)

module _ (start : Float) (mode : Mode) (place : ℕ) (xs : List Float) (places : List ℕ) where
  -- with the terms from place i on, sum makes the whole
  abbrev pub Ahead : Float → ℕ → Type 0
  Ahead sum i = total binary32 sum (terms_at mode place xs (drop i places)) ≡ added_to start mode place xs places

  pub begin : Ahead start 0
  unfolding added_to
  begin = refl

  module _ (sum : Float) (i : ℕ) (a : Ahead sum i) (len k : ℕ) (band : len ≡ total_carriers mode)
      (at : k ≡ place * carriers_per_segment mode + get_or places i 0) where
    -- the calls of a turn compute the place's term
    pub further : (later earlier turned p : Pair) → i < length places → later ≡ pair_at xs (len + k) → earlier ≡ pair_at xs k
        → turned ≡ conjugate earlier → p ≡ product binary32 later turned → Ahead (add binary32 sum p.re) (i + 1)
    unfolding total
    further later earlier turned p h l e t q =
        let term : p.re ≡ soft_term (total_carriers mode) xs (place * carriers_per_segment mode + get_or places i 0) = rw (q, t, l, e, band, at) in
        rw (term, add-one i) (rw (drop-cons places i 0 h) at a)

  pub done : (sum : Float) (i : ℕ) → Ahead sum i → length places ≤ i → sum ≡ added_to start mode place xs places
  unfolding total
  done sum i a h = rw (drop_of_length-le places h) at a
