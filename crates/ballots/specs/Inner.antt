-- The words of the contracts inside this crate, and of the count that calls them.
-- Definitions only.
use Rattle.std.specs.Prelude.{ℕ, ◌+◌, ◌*◌, ◌≤◌, ◌<◌, Bool, cond, not, List, [], ◌∷◌, ◌++◌, ◌≡◌, eqb, get_or, length, Float, Option, Some, None}
use Rattle.std.specs.Float.{binary32, binary64}
use Rattle.std.specs.Float.Ieee.{add, mul}
use Rattle.lists.specs.Lists.{up_to}
use Rattle.params.specs.declared.Mode.{Mode}
use Rattle.params.specs.Params.{total_carriers}
use Rattle.complex.specs.Complex.{Pair, of32, product, conjugate, plus, scaled, squared_size, norm32}
use Rattle.spectra.specs.Spectra.{pair_at}
use Rattle.prbs.specs.Signs.{band_signs}
use Rattle.pilots.specs.Pilots.{pilot_value}
use Rattle.ballots.specs.declared.Pilot.{Pilot}
use Rattle.ballots.specs.declared.Last.{Last}
use Rattle.ballots.specs.declared.Run.{Run}
use Rattle.ballots.specs.Ballots.{pilots, twelve_apart, times_pilot, product_sum, energy_sum, has_energy, phase_metric}

-- count carriers from the lowest on, 12 apart
abbrev pub twelfths : ℕ → ℕ → List ℕ
twelfths lowest count = up_to (λ i. lowest + 12 * i) count

-- the run s with the next pilot not 12 further on
pub record Parted (s r : Run) : Type 0 where
  pub last : r.last ≡ None
  pub sum : r.sum ≡ s.sum
  pub energy : r.energy ≡ s.energy

-- a pilot has its squared size, in f64
pub record Sized (p : Pilot) : Type 0 where
  pub square : p.square ≡ squared_size binary64 (of32 p.value)

-- the pilot at carrier k, by the signs of the carriers
pub record PilotAt (y : List Float) (signs : List ℕ) (k : ℕ) (p : Pilot) : Type 0 where
  pub value : of32 p.value ≡ scaled binary32 (pair_at y k) (pilot_value (get_or signs k 0)).re
  pub sized : Sized p

-- the sums with a pilot v more, behind the last
abbrev pub sum_with : Option Last → Pair → Pair → Pair
sum_with None v sum = sum
sum_with (Some last) v sum = plus binary32 sum (product binary32 v (conjugate (of32 last.value)))

abbrev pub energy_with : Option Last → Pair → Float → Float
energy_with None v energy = energy
energy_with (Some last) v energy = add binary32 energy (mul binary32 last.norm (norm32 v))

-- the run s with a pilot v more
pub record Joined (s : Run) (v : Pair) (r : Run) : Type 0 where
  pub last : Last
  pub keeps : r.last ≡ Some last
  pub value : of32 last.value ≡ v
  pub norm : last.norm ≡ norm32 v
  pub sum : of32 r.sum ≡ sum_with s.last v (of32 s.sum)
  pub energy : r.energy ≡ energy_with s.last v s.energy

-- a pilot is the last of the pilots ks, 12 below the next
pub record Kept (mode : Mode) (y : ℕ → Pair) (ks : List ℕ) (next : ℕ) (r : Last) : Type 0 where
  pub earlier : List ℕ
  pub last : ℕ
  pub ends : ks ≡ earlier ++ (last ∷ [])
  pub twelve : next ≡ last + 12
  pub value : of32 r.value ≡ times_pilot mode y last
  pub norm : r.norm ≡ norm32 (times_pilot mode y last)

-- what a run keeps of the pilots ks: the last of them, or where it keeps none, that no pilot from the next on is 12 above one
abbrev pub Ends : Mode → (ℕ → Pair) → List ℕ → ℕ → Option Last → Type 0
Ends mode y ks next None = (n : ℕ) → next ≤ n → twelve_apart (ks ++ (n ∷ [])) ≡ twelve_apart ks
Ends mode y ks next (Some last) = Kept mode y ks next last

-- a run over the pilots ks of the spectrum y, where the next is `next`, or above it if the run keeps none
pub record Walked (mode : Mode) (y : ℕ → Pair) (ks : List ℕ) (next : ℕ) (r : Run) : Type 0 where
  pub sum : of32 r.sum ≡ product_sum mode y (twelve_apart ks)
  pub energy : r.energy ≡ energy_sum mode y (twelve_apart ks)
  pub ends : Ends mode y ks next r.last

-- count carriers from the lowest on, at least one, 12 apart, lie within a spectrum of m carriers: the last is below m
pub record Walkable (lowest count m : ℕ) : Type 0 where
  pub some : 0 < count
  pub inside : lowest + 12 * count < m + 12

-- the run s led on over such carriers, whatever was walked before
pub record Walks (s : Run) (y : List Float) (signs : List ℕ) (lowest count : ℕ) (r : Run) : Type 0 where
  pub walked : (mode : Mode) → signs ≡ band_signs mode → (ks : List ℕ) → Walked mode (pair_at y) ks lowest s
      → Walked mode (pair_at y) (ks ++ twelfths lowest count) (lowest + 12 * count) r

-- n floats are one spectrum of the band, with the band's signs
pub record Spectrum (mode : Mode) (n : ℕ) (signs : List ℕ) : Type 0 where
  pub floats : n ≡ 2 * total_carriers mode
  pub signed : signs ≡ band_signs mode

-- how coherent the pilots of a phase are in the spectrum y, if they have energy
abbrev pub coherence : Mode → List ℕ → (ℕ → Pair) → ℕ → Option Float
coherence mode kinds y phase = cond (has_energy mode kinds y phase) (Some (phase_metric mode kinds y phase)) None

-- whether there are scattered pilots
abbrev pub some_pilots : Mode → List ℕ → Bool
some_pilots mode kinds = not (eqb (length (pilots mode kinds 0)) 0)
