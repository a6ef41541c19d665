-- Segments by their place in the band (ARIB STD-B31, Figure 3-32), and a carrier's FFT bin (3.14.1).
-- Definitions only.
use Rattle.std.specs.Prelude.{ℕ, ◌+◌, ◌*◌, ◌-◌, ◌/◌, ◌%◌, ◌<◌, cond, List, [], ◌∷◌, ◌≡◌, ltb, length, get_or, Option, Some, None, Result, Ok, Err}
use Rattle.lists.specs.Refusals.{unless}
use Rattle.params.specs.declared.Mode.{Mode}
use Rattle.params.specs.declared.Refusal.{Refusal}
use Rattle.params.specs.declared.Refusal.TheVariants.{BadMode, Outside}
use Rattle.params.specs.Params.{carriers_per_segment, total_carriers, fft_size, code_of, given}
use Rattle.ofdm.specs.declared.CarrierPlace.{CarrierPlace}
use Rattle.ofdm.specs.declared.FftBin.{FftBin}

-- the segments from the lowest place upward
abbrev pub order : List ℕ
order = 11 ∷ 9 ∷ 7 ∷ 5 ∷ 3 ∷ 1 ∷ 0 ∷ 2 ∷ 4 ∷ 6 ∷ 8 ∷ 10 ∷ 12 ∷ []

-- the place of each segment, by its number
abbrev pub places : List ℕ
places = 6 ∷ 5 ∷ 7 ∷ 4 ∷ 8 ∷ 3 ∷ 9 ∷ 2 ∷ 10 ∷ 1 ∷ 11 ∷ 0 ∷ 12 ∷ []

abbrev pub segment_at : ℕ → ℕ
segment_at place = get_or order place 0

abbrev pub place_of : ℕ → ℕ
place_of seg = get_or places seg 0

-- the lowest carrier of the segment at a place; the edge is that of place 13
abbrev pub first_carrier : Mode → ℕ → ℕ
first_carrier m place = place * carriers_per_segment m

-- the carrier at a place of the segment that has a place in the band
abbrev pub carrier_at : Mode → ℕ → ℕ → ℕ
carrier_at m place p = first_carrier m place + p

-- and back: the place in the band of a carrier's segment, and the carrier's place in its segment
abbrev pub band_place : Mode → ℕ → ℕ
band_place m k = k / carriers_per_segment m

abbrev pub segment_place : Mode → ℕ → ℕ
segment_place m k = k % carriers_per_segment m

-- what `carrier_place` gives for a carrier below the edge
pub record Placed (m : Mode) (k : ℕ) (r : CarrierPlace) : Type 0 where
  pub place : r.place.0 ≡ band_place m k
  pub p : r.p.0 ≡ segment_place m k
  pub place_below : r.place.0 < 13
  pub p_below : r.p.0 < carriers_per_segment m

-- the centre carrier, which has bin 0
abbrev pub center_carrier : Mode → ℕ
center_carrier m = (total_carriers m - 1) / 2

-- k less the centre carrier, modulo n; n is added first, since ℕ stops at 0
abbrev pub bin_of : Mode → ℕ → ℕ
bin_of m k = (k + (fft_size m - center_carrier m)) % fft_size m

-- the lookup's answer for every input: the bin, or its refusal, first for a bad mode, then for k at or above k_total
abbrev pub bin_lookup : Option Mode → ℕ → Result FftBin Refusal
bin_lookup None k = Err BadMode
bin_lookup (Some m) k = cond (ltb k (total_carriers m)) (Ok (record { 0 = bin_of m k })) (Err Outside)

-- the bin that an answer hands back, or what was lent where it has none
abbrev pub bin_given : Result FftBin Refusal → ℕ → ℕ
bin_given = given (λ bin. bin.0)

-- what refuses a lookup, or 0
abbrev pub bin_code : Option Mode → ℕ → ℕ
bin_code None k = 1
bin_code (Some m) k = unless (ltb k (total_carriers m)) 4 0

pub record BinLookedUp (mode : Option Mode) (k : ℕ) (r : Result FftBin Refusal) : Type 0 where
  pub number : code_of r ≡ bin_code mode k
  pub answer : r ≡ bin_lookup mode k
