-- A ballot does not depend on the phase or the gain at which the recorder ran: where single spectra are negated, all are turned by a quarter, or
-- all are amplified by a power of two on whole-number parts, every symbol's ballot is as before.
-- Assumes nothing.
use Rattle.std.specs.Prelude.{ℕ, zero, suc, ◌+◌, ◌≤◌, ◌<◌, Bool, true, false, ◌||◌, List, [], ◌∷◌, map, ◌⊎◌, ◌≡◌, refl, eqb, length, get_or, Float}
use Rattle.std.proofs.Math.Bool.{cond}
use Rattle.std.proofs.Common.{inl, inr, ◌∙◌, arith}
use Rattle.std.proofs.Math.Path.{sym, ap}
use Rattle.std.proofs.lemmas.List.{length-map}
use Rattle.std.specs.Float.Ieee.{binary32, lt, mul, div, neg, of_bits}
use Rattle.ieee.specs.Constants.{plus_zero}
use Rattle.ieee.specs.Levels.{Scaled, constant}
use Rattle.ieee.specs.Gain.{neg_scaled, constant_scaled}
use Rattle.ieee.specs.Sums.{total, Each}
use Rattle.lists.specs.Lists.{up_to}
use Rattle.lists.specs.Select.{up_to_same}
use Rattle.params.specs.declared.Mode.{Mode}
use Rattle.params.specs.Params.{total_carriers}
use Rattle.complex.specs.Complex.{Pair, pair, product, conjugate, scaled, norm32}
use Rattle.complex.specs.Changes.{negated, turn_if, amplified, gain_by, most, WholePair, Change}
use Rattle.complex.specs.Turns.{changed_product, changed_scaled, changed_norm32}
use Rattle.complex.specs.Bounds.{gain_cases}
use Rattle.complex.specs.Gains.{BothScaled}
use Rattle.complex.specs.Totals.{totals}
use Rattle.complex.specs.Bounds.{pilot_level, pilot_step_level, pilot_energy_level, part_gain, pilot_gain, pilot_step_gain}
use Rattle.complex.specs.Bounds.{pilot_energy_gain, pilot_sum_gain, pilot_energy_sum_gain, pilot_quotient_gain, above_zero_gain}
use Rattle.spectra.specs.Spectra.{spectra_in}
use Rattle.spectra.specs.Changes.{Changed, Allowed}
use Rattle.prbs.specs.Signs.{band_signs}
use Rattle.pilots.specs.Pilots.{pilot_amplitude, pilot_value}
use Rattle.ballots.specs.Ballots.{pilot_pairs, times_pilot, pilot_product, pilot_energy, product_sum, energy_sum, has_energy}
use Rattle.ballots.specs.Ballots.{phase_metric, Choice, choose_from, choice_of, ballot_of, spectrum_at, ballot_at, ballots}
use Rattle.ballots.specs.Pilots.{Apart, pilots_apart, few_pilots}

-- ---- one pair of pilots: signs and turns cancel
-- a negation and a quarter turn are rotations: z is y rotated so
module _ (mode : Mode) (b t : Bool) (y z : ℕ → Pair) where
  abbrev RotatedAt : ℕ → Type 0
  RotatedAt k = z k ≡ negated b (turn_if t (y k))

  rotated_pilot : (k : ℕ) → RotatedAt k → times_pilot mode z k ≡ negated b (turn_if t (times_pilot mode y k))
  unfolding times_pilot
  rotated_pilot k h =
      let r = (pilot_value (get_or (band_signs mode) k 0)).re in
      ap (λ (x : Pair). scaled binary32 x r) h ∙ changed_scaled binary32 b t (y k) r

  rotated_product : (a : ℕ) → RotatedAt a → RotatedAt (a + 12) → pilot_product mode z a ≡ pilot_product mode y a
  rotated_product a h g =
      let u = times_pilot mode y (a + 12) in
      let v = times_pilot mode y a in
      (λ i. product binary32 (rotated_pilot (a + 12) g i) (conjugate (rotated_pilot a h i)))
      ∙ changed_product binary32 b t u v

  rotated_norm : (k : ℕ) → RotatedAt k → norm32 (times_pilot mode z k) ≡ norm32 (times_pilot mode y k)
  rotated_norm k h = ap norm32 (rotated_pilot k h) ∙ changed_norm32 b t (times_pilot mode y k)

  rotated_energy : (a : ℕ) → RotatedAt a → RotatedAt (a + 12) → pilot_energy mode z a ≡ pilot_energy mode y a
  rotated_energy a h g = λ i. mul binary32 (rotated_norm a h i) (rotated_norm (a + 12) g i)

-- ---- what a ballot reads of a phase: its metric, and whether its pilots have energy
record SamePhase (mode : Mode) (kinds : List ℕ) (y z : ℕ → Pair) (phase : ℕ) : Type 0 where
  metric : phase_metric mode kinds z phase ≡ phase_metric mode kinds y phase
  energy : has_energy mode kinds z phase ≡ has_energy mode kinds y phase

-- both are of carriers within the band alone: a carrier 12 below one of the band is one too
lower : (a n : ℕ) → a + 12 < n → a < n
lower a n h = omega arith

pub map_same : {A : Type 0} (f g : ℕ → A) (n : ℕ) (ks : List ℕ) → Apart n ks → ((a : ℕ) → a < n → a + 12 < n → f a ≡ g a) → map f ks ≡ map g ks
map_same f g n [] h e = refl
map_same f g n (a ∷ ks) h e = λ i. e a (lower a n h.0) h.0 i ∷ map_same f g n ks h.1 e i

map_each : {A : Type 0} (R : A → A → Type 0) (f g : ℕ → A) (n : ℕ) (ks : List ℕ) → Apart n ks
    → ((a : ℕ) → a < n → a + 12 < n → R (f a) (g a)) → Each R (map f ks) (map g ks)
unfolding Each
map_each R f g n [] h e = tt
map_each R f g n (a ∷ ks) h e = (e a (lower a n h.0) h.0, map_each R f g n ks h.1 e)

rotated_phase : (mode : Mode) (kinds : List ℕ) (b t : Bool) (y z : ℕ → Pair) → ((k : ℕ) → k < total_carriers mode → RotatedAt mode b t y z k)
    → (phase : ℕ) → SamePhase mode kinds y z phase
unfolding phase_metric product_sum energy_sum
rotated_phase mode kinds b t y z h phase =
    let ks = pilot_pairs mode kinds phase in
    let n = total_carriers mode in
    let A = pilots_apart mode kinds phase in
    let p : product_sum mode z ks ≡ product_sum mode y ks =
    ap (totals binary32 (pair (plus_zero binary32) (plus_zero binary32)))
    (map_same (pilot_product mode z) (pilot_product mode y) n ks A (λ a l m. rotated_product mode b t y z a (h a l) (h (a + 12) m))) in
    let e : energy_sum mode z ks ≡ energy_sum mode y ks =
    ap (total binary32 (plus_zero binary32))
    (map_same (pilot_energy mode z) (pilot_energy mode y) n ks A (λ a l m. rotated_energy mode b t y z a (h a l) (h (a + 12) m))) in
    record {
      metric = λ i. cond (lt (plus_zero binary32) (e i)) (div binary32 (p i).re (e i)) (plus_zero binary32);
      energy = λ i. lt (plus_zero binary32) (e i);
    }

-- ---- a gain goes into products and energies twice, and out of their quotient
amplitude_at : (k : ℕ) → Scaled (constant 23 11184811) k pilot_amplitude pilot_amplitude
unfolding of_bits
amplitude_at k = constant_scaled k 23 11184811 _ pilot_amplitude (refl, refl)

pilot_at : (k w : ℕ) → Scaled (constant 23 11184811) k (pilot_value w).re (pilot_value w).re
pilot_at k w = by (eqb w 0)
  where
    by : (b : Bool) → let r = cond b pilot_amplitude (neg pilot_amplitude) in Scaled (constant 23 11184811) k r r
    by true = amplitude_at k
    by false = neg_scaled k (constant 23 11184811) pilot_amplitude pilot_amplitude (amplitude_at k)

module _ (mode : Mode) (kinds : List ℕ) (k : ℕ) (K : k ≤ most) (y : ℕ → Pair) (w : (i : ℕ) → i < total_carriers mode → WholePair (y i)) where
  abbrev loud : ℕ → Pair
  loud i = amplified k (y i)

  gained_pilot : (i : ℕ) → i < total_carriers mode → BothScaled pilot_level k (times_pilot mode y i) (times_pilot mode loud i)
  unfolding times_pilot
  gained_pilot i l = pilot_gain k K (y i) (loud i) _ (pilot_at k (get_or (band_signs mode) i 0)) (part_gain k K (y i) (w i l))

  gained_phase : (phase : ℕ) → phase < 4 → SamePhase mode kinds y loud phase
  unfolding phase_metric product_sum energy_sum
  gained_phase phase P =
      let ks = pilot_pairs mode kinds phase in
      let n = total_carriers mode in
      let A = pilots_apart mode kinds phase in
      let N = few_pilots mode kinds phase P in
      let p = pilot_sum_gain k K _ _ (rw (length-map ks (pilot_product mode y)) N)
      (map_each (BothScaled pilot_step_level k) (pilot_product mode y) (pilot_product mode loud) n ks A
      (λ a l m. pilot_step_gain k K _ _ _ _ (gained_pilot (a + 12) m) (gained_pilot a l))) in
      let e = pilot_energy_sum_gain k K _ _ (rw (length-map ks (pilot_energy mode y)) N)
      (map_each (Scaled pilot_energy_level k) (pilot_energy mode y) (pilot_energy mode loud) n ks A
      (λ a l m. pilot_energy_gain k K _ _ _ _ (gained_pilot a l) (gained_pilot (a + 12) m))) in
      let above = sym (above_zero_gain binary32 _ k _ _ e) in
      record {
        metric = λ i. cond (above i) (sym (pilot_quotient_gain k K _ _ _ _ p.re e) i) (plus_zero binary32);
        energy = above;
      }

gain_phase : (mode : Mode) (kinds : List ℕ) (k : ℕ) (y : ℕ → Pair)
    → (k ≡ 0) ⊎ ((k ≤ most) × ((i : ℕ) → i < total_carriers mode → WholePair (y i)))
    → (phase : ℕ) → phase < 4 → SamePhase mode kinds y (λ i. gain_by k (y i)) phase
gain_phase mode kinds k y A phase P =
    gain_cases (λ k. SamePhase mode kinds y (λ i. gain_by k (y i)) phase) k A (record { metric = refl; energy = refl })
    (λ j K w. gained_phase mode kinds (suc j) K y w phase P)

-- ---- spectra that are alike in all four phases have the same ballot
pub choose_same : (f g : ℕ → Float) (best : Choice) (p n : ℕ) → ((i : ℕ) → i < p + n → f i ≡ g i) → choose_from f best p n ≡ choose_from g best p n
unfolding choose_from
choose_same f g best p zero h = refl
choose_same f g best p (suc n) h =
    let e = h p (omega arith) in
    ap (λ (m : Float). choose_from f (cond (lt best.metric m) (record { phase = p; metric = m }) best) (suc p) n) e
    ∙ choose_same f g (cond (lt best.metric (g p)) (record { phase = p; metric = g p }) best) (suc p) n (λ i l. h i (omega arith))

ballot_same : (mode : Mode) (kinds : List ℕ) (y z : ℕ → Pair) → ((phase : ℕ) → phase < 4 → SamePhase mode kinds y z phase)
    → ballot_of mode kinds z ≡ ballot_of mode kinds y
unfolding ballot_of choice_of
ballot_same mode kinds y z h =
    let has : (phase : ℕ) → phase < 4 → has_energy mode kinds z phase ≡ has_energy mode kinds y phase = λ phase P. (h phase P).energy in
    let has0 = has 0 (omega arith) in
    let has1 = has 1 (omega arith) in
    let has2 = has 2 (omega arith) in
    let has3 = has 3 (omega arith) in
    let choice = choose_same (phase_metric mode kinds z) (phase_metric mode kinds y) _ 0 4 (λ i l. (h i (omega arith)).metric) in
    λ i. record { choice = (choice i).phase; heard = has0 i || has1 i || has2 i || has3 i }

-- so the ballot looks at the carriers of the band alone
pub ballot_alike : (mode : Mode) (kinds : List ℕ) (y z : ℕ → Pair) → ((k : ℕ) → k < total_carriers mode → z k ≡ y k)
    → ballot_of mode kinds z ≡ ballot_of mode kinds y
ballot_alike mode kinds y z h = ballot_same mode kinds y z (λ phase P. rotated_phase mode kinds false false y z h phase)

-- ---- so every symbol's ballot is as before
module _ (c : Change) (mode : Mode) (kinds : List ℕ) (xs ys : List Float) (A : Allowed c (total_carriers mode) xs)
    (h : Changed c (total_carriers mode) (λ b. b) xs ys) where
  ballot_kept : (j : ℕ) → j < spectra_in (total_carriers mode) (length xs) → ballot_at mode kinds ys j ≡ ballot_at mode kinds xs j
  ballot_kept j l =
      let x = spectrum_at (total_carriers mode) xs j in
      let y = spectrum_at (total_carriers mode) ys j in
      let loud : ℕ → Pair = λ b. gain_by c.gain (x b) in
      let whole : (c.gain ≡ 0) ⊎ ((c.gain ≤ most) × ((b : ℕ) → b < total_carriers mode → WholePair (x b))) =
      elim A [ inl z ↦ inl z | inr w ↦ inr (w.0, λ b B. w.1.pairs j b l B) ] in
      ballot_same mode kinds loud y (λ phase P. rotated_phase mode kinds (c.negates j) c.turns loud y (λ b B. h.pairs j b l B) phase)
      ∙ ballot_same mode kinds x loud (gain_phase mode kinds c.gain x whole)

  pub changed_ballots : ballots mode kinds ys ≡ ballots mode kinds xs
  unfolding ballots
  changed_ballots =
      let len = total_carriers mode in
      ap (λ (n : ℕ). up_to (ballot_at mode kinds ys) (spectra_in len n)) h.long
      ∙ up_to_same (ballot_at mode kinds ys) (ballot_at mode kinds xs) (spectra_in len (length xs)) ballot_kept
