-- One ballot a symbol (acquire.rs, `detect_sp_phase`; document 01, "The pilot phase"). For each of the four phases, products of scattered pilots
-- 12 carriers apart, their known signs multiplied in, add up coherently for the right phase alone. A symbol's ballot is the phase that comes out
-- best, and whether its pilots were heard at all, which the lead asks (document 02, Ask 4).
-- Definitions only.
use Rattle.std.specs.Prelude.{ℕ, zero, suc, ◌+◌, ◌*◌, Bool, cond, ◌||◌, List, [], ◌∷◌, map, eqb, get_or, length, Float}
use Rattle.std.specs.Float.{binary32}
use Rattle.std.specs.Float.Ieee.{mul, div, lt, of_bits}
use Rattle.ieee.specs.Constants.{plus_zero}
use Rattle.ieee.specs.Sums.{total}
use Rattle.lists.specs.Lists.{up_to, chosen}
use Rattle.params.specs.declared.Mode.{Mode}
use Rattle.params.specs.Params.{total_carriers}
use Rattle.complex.specs.Complex.{Pair, pair, product, conjugate, scaled, norm32}
use Rattle.complex.specs.Totals.{totals}
use Rattle.spectra.specs.Spectra.{pair_at, spectra_in}
use Rattle.prbs.specs.Signs.{band_signs}
use Rattle.pilots.specs.Pilots.{pilot_value}
use Rattle.frame.specs.Roles.{band_roles, wide}
use Rattle.ballots.specs.declared.Ballot.{Ballot}

-- ---- the scattered pilots of a phase, ascending: the carriers whose role byte is 1
unfoldable pub pilots : Mode → List ℕ → ℕ → List ℕ
pilots mode kinds phase = chosen (λ role. eqb role 1) 0 (band_roles mode phase (wide kinds))

-- those of a list whose next entry is 12 further on
unfoldable pub twelve_apart : List ℕ → List ℕ
twelve_apart [] = []
twelve_apart (a ∷ []) = []
twelve_apart (a ∷ b ∷ ks) = cond (eqb b (a + 12)) (a ∷ twelve_apart (b ∷ ks)) (twelve_apart (b ∷ ks))

-- the pairs of pilots of a phase, each by its lower carrier
abbrev pub pilot_pairs : Mode → List ℕ → ℕ → List ℕ
pilot_pairs mode kinds phase = twelve_apart (pilots mode kinds phase)

-- ---- one spectrum: y gives the pair of each carrier
-- a carrier's pair times its pilot's value, which takes the pilot's sign out of it
unfoldable pub times_pilot : Mode → (ℕ → Pair) → ℕ → Pair
times_pilot mode y k = scaled binary32 (y k) (pilot_value (get_or (band_signs mode) k 0)).re

abbrev pub pilot_product : Mode → (ℕ → Pair) → ℕ → Pair
pilot_product mode y a = product binary32 (times_pilot mode y (a + 12)) (conjugate (times_pilot mode y a))

abbrev pub pilot_energy : Mode → (ℕ → Pair) → ℕ → Float
pilot_energy mode y a = mul binary32 (norm32 (times_pilot mode y a)) (norm32 (times_pilot mode y (a + 12)))

unfoldable pub product_sum : Mode → (ℕ → Pair) → List ℕ → Pair
product_sum mode y ks = totals binary32 (pair (plus_zero binary32) (plus_zero binary32)) (map (pilot_product mode y) ks)

unfoldable pub energy_sum : Mode → (ℕ → Pair) → List ℕ → Float
energy_sum mode y ks = total binary32 (plus_zero binary32) (map (pilot_energy mode y) ks)

-- whether the energy of a phase's pilots is above zero, which a NaN is not
abbrev pub has_energy : Mode → List ℕ → (ℕ → Pair) → ℕ → Bool
has_energy mode kinds y phase = lt (plus_zero binary32) (energy_sum mode y (pilot_pairs mode kinds phase))

-- how coherent the pilots of a phase are; 0.0 without energy
unfoldable pub phase_metric : Mode → List ℕ → (ℕ → Pair) → ℕ → Float
phase_metric mode kinds y phase =
    let ks = pilot_pairs mode kinds phase in
    cond (has_energy mode kinds y phase) (div binary32 (product_sum mode y ks).re (energy_sum mode y ks)) (plus_zero binary32)

-- the first phase with the greatest metric; 0 where none is above -1
pub record Choice : Type 0 where
  pub phase : ℕ
  pub metric : Float

unfoldable pub choose_from : (ℕ → Float) → Choice → ℕ → ℕ → Choice
choose_from f best p zero = best
choose_from f best p (suc n) = choose_from f (cond (lt best.metric (f p)) (record { phase = p; metric = f p }) best) (suc p) n

-- -1.0
abbrev pub minus_one : Float
minus_one = of_bits binary32 0xbf80_0000

unfoldable pub choice_of : Mode → List ℕ → (ℕ → Pair) → ℕ
choice_of mode kinds y = (choose_from (phase_metric mode kinds y) (record { phase = 0; metric = minus_one }) 0 4).phase

-- ---- the ballot of a symbol: its choice, and whether it was heard, which it is where the pilots of at least one of the four phases have energy
unfoldable pub ballot_of : Mode → List ℕ → (ℕ → Pair) → Ballot
ballot_of mode kinds y =
    let has = has_energy mode kinds y in
    record { choice = choice_of mode kinds y; heard = has 0 || has 1 || has 2 || has 3 }

-- spectrum j of flat spectra
abbrev pub spectrum_at : ℕ → List Float → ℕ → ℕ → Pair
spectrum_at len xs j k = pair_at xs (j * len + k)

abbrev pub ballot_at : Mode → List ℕ → List Float → ℕ → Ballot
ballot_at mode kinds xs j = ballot_of mode kinds (spectrum_at (total_carriers mode) xs j)

-- whether symbol j was heard
abbrev pub heard_at : Mode → List ℕ → List Float → ℕ → Bool
heard_at mode kinds xs j = (ballot_at mode kinds xs j).heard

-- one for each spectrum
unfoldable pub ballots : Mode → List ℕ → List Float → List Ballot
ballots mode kinds xs = up_to (ballot_at mode kinds xs) (spectra_in (total_carriers mode) (length xs))
