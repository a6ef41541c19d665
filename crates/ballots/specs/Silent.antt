-- Which symbols are silent, that is, not heard. A silent symbol chooses phase 0, since the metrics of all four phases are 0.0. A symbol of zeros is
-- silent, whatever their signs: `canon` forgets the sign of a zero and nothing else.
-- Assumes nothing.
use Rattle.std.specs.Prelude.{ℕ, zero, suc, ◌+◌, ◌*◌, ◌<◌, Bool, true, false, cond, ◌||◌, List, [], ◌∷◌, map, ◌≡◌, eqb, length, Float}
use Rattle.std.proofs.Common.{true≢false, ◌∙◌, arith}
use Rattle.std.proofs.Math.Path.{refl, ap}
use Rattle.std.proofs.Math.ListN.{get_or}
use Rattle.std.specs.Float.{nan, binary64}
use Rattle.std.specs.Float.Ieee.{binary32, lt, add, mul, neg, of_bits}
use Rattle.root.specs.Root.{root_of}
use Rattle.ieee.specs.Narrow.{narrow_of}
use Rattle.ieee.specs.Constants.{plus_zero}
use Rattle.ieee.specs.Sums.{total}
use Rattle.ieee.specs.Zeros.{canon, canon_times, square_alike}
use Rattle.params.specs.declared.Mode.{Mode}
use Rattle.params.specs.Params.{total_carriers}
use Rattle.complex.specs.Complex.{Pair, norm64, norm32}
use Rattle.spectra.specs.Spectra.{spectra_in}
use Rattle.spectra.specs.Flat.{pair_inside}
use Rattle.prbs.specs.Signs.{band_signs}
use Rattle.pilots.specs.Pilots.{pilot_amplitude, pilot_value}
use Rattle.ballots.specs.Ballots.{pilot_pairs, times_pilot, pilot_energy, energy_sum, has_energy, phase_metric, Choice, choose_from}
use Rattle.ballots.specs.Ballots.{minus_one, choice_of, ballot_of, spectrum_at, heard_at}
use Rattle.ballots.specs.Pilots.{pilots_apart}
use Rattle.ballots.specs.Changed.{map_same, choose_same}

abbrev zero32 : Float
zero32 = plus_zero binary32

-- ---- a silent symbol: none of the four phases has energy
none_of_four : (has : ℕ → Bool) (a b c d : Bool) → has 0 ≡ a → has 1 ≡ b → has 2 ≡ c → has 3 ≡ d → (a || b || c || d) ≡ false
    → (p : ℕ) → p < 4 → has p ≡ false
none_of_four has true b c d e f g h q p l = absurd (true≢false q)
none_of_four has false true c d e f g h q p l = absurd (true≢false q)
none_of_four has false false true d e f g h q p l = absurd (true≢false q)
none_of_four has false false false true e f g h q p l = absurd (true≢false q)
none_of_four has false false false false e f g h q zero l = e
none_of_four has false false false false e f g h q (suc zero) l = f
none_of_four has false false false false e f g h q (suc (suc zero)) l = g
none_of_four has false false false false e f g h q (suc (suc (suc zero))) l = h
none_of_four has false false false false e f g h q (suc (suc (suc (suc p)))) l = absurd (omega arith)

module _ (mode : Mode) (kinds : List ℕ) (y : ℕ → Pair) where
  -- so each metric is 0.0, and the first phase is chosen
  silent_metric : (ballot_of mode kinds y).heard ≡ false → (p : ℕ) → p < 4 → phase_metric mode kinds y p ≡ zero32
  unfolding ballot_of phase_metric
  silent_metric q p l = rw (none_of_four (has_energy mode kinds y) _ _ _ _ refl refl refl refl q p l)

  pub silent_choice : (ballot_of mode kinds y).heard ≡ false → (ballot_of mode kinds y).choice ≡ 0
  unfolding ballot_of choice_of choose_from lt of_bits
  silent_choice q =
      let start : Choice = record { phase = 0; metric = minus_one } in
      ap (λ (best : Choice). best.phase) (choose_same (phase_metric mode kinds y) (λ p. zero32) start 0 4 (λ p l. silent_metric q p (omega arith)))

-- ---- a pilot of zeros: times its value it is one again, and its norm is +0.0
zero_times : (x : Float) (w : ℕ) → canon x ≡ zero32 → canon (mul binary32 x (pilot_value w).re) ≡ zero32
unfolding mul neg of_bits
zero_times x w e = canon_times binary32 x _ ∙ ap (λ (z : Float). canon (mul binary32 z (pilot_value w).re)) e ∙ by (eqb w 0)
  where
    by : (b : Bool) → canon (mul binary32 zero32 (cond b pilot_amplitude (neg pilot_amplitude))) ≡ zero32
    by true = refl
    by false = refl

-- both parts are zeros
abbrev IsZero : Pair → Type 0
IsZero x = (canon x.re ≡ zero32) × (canon x.im ≡ zero32)

zero_norm : (x : Pair) → IsZero x → norm32 x ≡ zero32
unfolding norm32 norm64 mul add root_of narrow_of of_bits
zero_norm x z =
    let re = square_alike binary64 x.re zero32 z.0 in
    let im = square_alike binary64 x.im zero32 z.1 in
    λ i. narrow_of (root_of (add binary64 (re i) (im i)))

zeros_total : (ks : List ℕ) → total binary32 zero32 (map (λ a. zero32) ks) ≡ zero32
unfolding total add of_bits
zeros_total [] = refl
zeros_total (k ∷ ks) = zeros_total ks

-- ---- a symbol of zeros: the energy of each phase is +0.0, which is not above zero
module _ (mode : Mode) (kinds : List ℕ) (y : ℕ → Pair) (z : (k : ℕ) → k < total_carriers mode → IsZero (y k)) where
  pilot_norm : (k : ℕ) → k < total_carriers mode → norm32 (times_pilot mode y k) ≡ zero32
  unfolding times_pilot
  pilot_norm k l =
      let w = get_or (band_signs mode) k 0 in
      zero_norm (times_pilot mode y k) (zero_times (y k).re w (z k l).0, zero_times (y k).im w (z k l).1)

  pair_energy : (a : ℕ) → a < total_carriers mode → a + 12 < total_carriers mode → pilot_energy mode y a ≡ zero32
  unfolding mul of_bits
  pair_energy a l m = λ i. mul binary32 (pilot_norm a l i) (pilot_norm (a + 12) m i)

  no_energy : (phase : ℕ) → has_energy mode kinds y phase ≡ false
  unfolding energy_sum lt of_bits
  no_energy phase =
      let ks = pilot_pairs mode kinds phase in
      let each = map_same (pilot_energy mode y) (λ a. zero32) (total_carriers mode) ks (pilots_apart mode kinds phase) pair_energy in
      ap (lt zero32) (ap (total binary32 zero32) each ∙ zeros_total ks)

  zeros_unheard : (ballot_of mode kinds y).heard ≡ false
  unfolding ballot_of
  zeros_unheard = λ i. no_energy 0 i || no_energy 1 i || no_energy 2 i || no_energy 3 i

-- so every symbol of a list of zeros is silent
pub zeros_silent : (mode : Mode) (kinds : List ℕ) (xs : List Float) → ((i : ℕ) → i < length xs → canon (get_or xs i nan) ≡ plus_zero binary32)
    → (j : ℕ) → j < spectra_in (total_carriers mode) (length xs) → heard_at mode kinds xs j ≡ false
zeros_silent mode kinds xs z j l =
    zeros_unheard mode kinds (spectrum_at (total_carriers mode) xs j) (λ k m.
    let r = pair_inside (total_carriers mode) j k (length xs) l m in
    (z (2 * (j * total_carriers mode + k)) (omega arith), z (2 * (j * total_carriers mode + k) + 1) r))
