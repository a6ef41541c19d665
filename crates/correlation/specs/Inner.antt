-- The words of the contracts inside this crate, and of the search that calls them.
-- Definitions only.
use Rattle.std.specs.Prelude.{◌≡◌, ℕ, ◌+◌, ◌*◌, ◌<◌, ◌≤◌, List, map, length, slice_index_or, Float}
use Rattle.std.specs.Float.{nan, binary64}
use Rattle.std.specs.Float.Ieee.{sub}
use Rattle.ieee.specs.Constants.{plus_zero}
use Rattle.ieee.specs.Sums.{total}
use Rattle.correlation.specs.declared.Window.{Window}
use Rattle.correlation.specs.Correlation.{pairs_in, lags_in, real_prefixes, imaginary_prefixes, energy_prefixes}

-- ---- three lists of prefix sums in the scratch, their entries in turn: where entry i of each stands
abbrev pub reals : ℕ → ℕ
reals i = 3 * i

abbrev pub imaginaries : ℕ → ℕ
imaginaries i = 3 * i + 1

abbrev pub energies : ℕ → ℕ
energies i = 3 * i + 2

abbrev pub entry : (ℕ → ℕ) → List Float → ℕ → Float
entry slot sums i = slice_index_or sums (slot i) nan

-- the entries up to last are the prefix sums of samples n apart
pub record Written (n : ℕ) (xs : List Float) (last : ℕ) (sums : List Float) : Type 0 where
  pub re : (i : ℕ) → i ≤ last → entry reals sums i ≡ slice_index_or (real_prefixes n xs) i nan
  pub im : (i : ℕ) → i ≤ last → entry imaginaries sums i ≡ slice_index_or (imaginary_prefixes n xs) i nan
  pub energy : (i : ℕ) → i ≤ last → entry energies sums i ≡ slice_index_or (energy_prefixes n xs) i nan

-- all of them
abbrev pub Holds : ℕ → List Float → List Float → Type 0
Holds n xs sums = Written n xs (lags_in n xs) sums

-- room for those of len samples
abbrev pub Room : ℕ → List Float → Type 0
Room len sums = 3 * (len + 1) ≤ length sums

pub record Writable (n : ℕ) (xs sums : List Float) : Type 0 where
  pub apart : n ≤ pairs_in (length xs)
  pub room : Room (lags_in n xs) sums

-- ---- the sum over the ng samples from a, by prefix sums; and those from each start, added to s
abbrev pub gap : (ℕ → Float) → ℕ → ℕ → Float
gap sum ng a = sub binary64 (sum (a + ng)) (sum a)

abbrev pub gaps : (ℕ → ℕ) → List Float → ℕ → Float → List ℕ → Float
gaps slot sums ng s from = total binary64 s (map (gap (entry slot sums) ng) from)

pub record Windowed (sums : List Float) (ng : ℕ) (from : List ℕ) (w : Window) : Type 0 where
  pub re : w.correlation.re ≡ gaps reals sums ng (plus_zero binary64) from
  pub im : w.correlation.im ≡ gaps imaginaries sums ng (plus_zero binary64) from
  pub energy : w.energy ≡ gaps energies sums ng (plus_zero binary64) from

-- an offset within a symbol of p samples, and a guard within the sums
pub record Inside (sums : List Float) (ng p len d : ℕ) : Type 0 where
  pub offset : d < p
  pub guard : ng ≤ len
  pub room : Room len sums
