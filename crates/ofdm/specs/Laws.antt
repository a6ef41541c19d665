-- What callers use of the band's order: the two tables undo each other and stay within the band, and a carrier's number takes apart
-- into its place in the band and its place in the segment. Beside it, a carrier's bin by subtraction, and the lookup's number.
-- Assumes nothing.
use Rattle.std.specs.Prelude.{ℕ, ◌+◌, ◌*◌, ◌-◌, ◌<◌, ◌≤◌, ◌≡◌, refl, Bool, true, false, cond, eqb, ltb, Option, Some, None, Result, Ok, Err}
use Rattle.std.proofs.Common.{ap, ◌∙◌, arith, suc-mul, mul-le-mul_right, mod-eq_of_lt, div-add-mod', div-lt_iff_lt-mul, mod-lt, ltb-true, eqb-true}
use Rattle.std.proofs.Math.Nat.{add-mod_right}
use Rattle.std.proofs.Math.Arith.{digits_lt, digits_div, digits_mod}
use Rattle.lists.specs.Refusals.{unless}
use Rattle.lists.specs.Tests.{all_below_at}
use Rattle.params.specs.declared.Mode.{Mode}
use Rattle.params.specs.declared.Refusal.{Refusal}
use Rattle.params.specs.declared.Refusal.TheVariants.{Outside}
use Rattle.params.specs.Params.{carriers_per_segment, total_carriers, fft_size, code_of}
use Rattle.params.specs.Laws.{sized}
use Rattle.ofdm.specs.declared.CarrierPlace.{CarrierPlace}
use Rattle.ofdm.specs.declared.FftBin.{FftBin}
use Rattle.ofdm.specs.Band.{segment_at, place_of, first_carrier, carrier_at, band_place, segment_place, Placed}
use Rattle.ofdm.specs.Band.{center_carrier, bin_of, bin_code, bin_lookup, BinLookedUp}

pub segment_below : (place : ℕ) → place < 13 → segment_at place < 13
segment_below place h = ltb-true _ _ (all_below_at (λ p. ltb (segment_at p) 13) 13 refl place h)

pub place_below : (seg : ℕ) → seg < 13 → place_of seg < 13
place_below seg h = ltb-true _ _ (all_below_at (λ s. ltb (place_of s) 13) 13 refl seg h)

pub segment_of_place : (seg : ℕ) → seg < 13 → segment_at (place_of seg) ≡ seg
segment_of_place seg h = eqb-true _ _ (all_below_at (λ s. eqb (segment_at (place_of s)) s) 13 refl seg h)

pub place_of_segment : (place : ℕ) → place < 13 → place_of (segment_at place) ≡ place
place_of_segment place h = eqb-true _ _ (all_below_at (λ p. eqb (place_of (segment_at p)) p) 13 refl place h)

-- a segment's carriers end within the band, before its edge
pub segment_ends : (m : Mode) (place : ℕ) → place < 13 → place * carriers_per_segment m + carriers_per_segment m < total_carriers m
segment_ends m place h =
    let c = carriers_per_segment m in
    let e : place * c + c ≤ 13 * c = rw (suc-mul place c) at (mul-le-mul_right c h) in
    omega (arith, (sized m).band)

pub carrier_below : (m : Mode) (place p : ℕ) → place < 13 → p < carriers_per_segment m → place * carriers_per_segment m + p < 13 * carriers_per_segment m
carrier_below m place p h l = digits_lt h l

-- a carrier below the edge of a band lies in one of its segments, at a place of it
pub in_band : (m : Mode) (segments k : ℕ) → k < first_carrier m segments → band_place m k < segments
in_band m segments k h = (div-lt_iff_lt-mul {k = carriers_per_segment m} {x = k} {y = segments} (omega (arith, (sized m).carriers_low))).1 h

pub in_segment : (m : Mode) (k : ℕ) → segment_place m k < carriers_per_segment m
in_segment m k = mod-lt k (omega (arith, (sized m).carriers_low))

-- the two ways undo each other
pub carrier_of_place : (m : Mode) (k : ℕ) → carrier_at m (band_place m k) (segment_place m k) ≡ k
carrier_of_place m k = div-add-mod' k (carriers_per_segment m)

pub place_of_carrier : (m : Mode) (place p : ℕ) → p < carriers_per_segment m
    → (band_place m (carrier_at m place p) ≡ place) × (segment_place m (carrier_at m place p) ≡ p)
place_of_carrier m place p h = (digits_div place h, digits_mod place h)

-- so `carrier_place`, which gives r, and `band_carrier` do
pub carrier_again : {m : Mode} {k : ℕ} {r : CarrierPlace} → Placed m k r → carrier_at m r.place.0 r.p.0 ≡ k
carrier_again {m} {k} w = rw (w.place, w.p) (carrier_of_place m k)

pub place_again : {m : Mode} (place p : ℕ) {r : CarrierPlace} → p < carriers_per_segment m → Placed m (carrier_at m place p) r
    → (r.place.0 ≡ place) × (r.p.0 ≡ p)
place_again {m} place p h w = let e = place_of_carrier m place p h in (w.place ∙ e.0, w.p ∙ e.1)

-- from the centre up, a carrier's bin is its distance from the centre
pub bin_above : (m : Mode) (k : ℕ) → center_carrier m ≤ k → k < total_carriers m → bin_of m k ≡ k - center_carrier m
bin_above m k low high =
    let e : k + (fft_size m - center_carrier m) ≡ (k - center_carrier m) + fft_size m = omega (arith, (sized m).within) in
    rw e (add-mod_right (k - center_carrier m) (fft_size m) ∙ mod-eq_of_lt (omega (arith, (sized m).within)))

-- below the centre, it is n less the distance
pub bin_below : (m : Mode) (k : ℕ) → k < center_carrier m → bin_of m k ≡ fft_size m + k - center_carrier m
bin_below m k h =
    let e : k + (fft_size m - center_carrier m) ≡ fft_size m + k - center_carrier m = omega (arith, (sized m).within) in
    rw e (mod-eq_of_lt (omega (arith, (sized m).within)))

-- the number of a lookup's answer is the definition's code
pub bin_number_lem : (mode : Option Mode) (k : ℕ) → code_of (bin_lookup mode k) ≡ bin_code mode k
bin_number_lem None k = refl
bin_number_lem (Some m) k = by (ltb k (total_carriers m))
  where
    by : (b : Bool) → code_of {A = FftBin} (cond b (Ok (record { 0 = bin_of m k })) (Err Outside)) ≡ unless b 4 0
    by true = refl
    by false = refl

pub bin_looked_up : (mode : Option Mode) (k : ℕ) (r : Result FftBin Refusal) → r ≡ bin_lookup mode k → BinLookedUp mode k r
bin_looked_up mode k r e = record { number = ap code_of e ∙ bin_number_lem mode k; answer = e }
