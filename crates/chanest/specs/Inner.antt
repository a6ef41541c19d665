-- The words of the contracts inside this crate.
-- Definitions only.
use Rattle.std.specs.Prelude.{ℕ, ◌*◌, ◌≤◌, ◌<◌, List, ◌≡◌, get_or, length, Float}
use Rattle.params.specs.declared.Mode.{Mode}
use Rattle.complex.specs.Complex.{Pair}
use Rattle.spectra.specs.Spectra.{pair_at}
use Rattle.prbs.specs.Signs.{band_signs}
use Rattle.pilot_times.specs.declared.Window.{Window}
use Rattle.pilot_times.specs.declared.Times.{Times}
use Rattle.pilot_times.specs.Inner.{spectra_of, Inside, Timed, Usable}
use Rattle.pilot_line.specs.Estimate.{inverse_of, estimate_of}
use Rattle.pilot_line.specs.Inner.{Spanned}
use Rattle.chanest.specs.Grid.{carrier_of, segment_points, grid_points, window_of}

-- ---- the window of the spectra xs, with the band's signs
pub record Captured (mode : Mode) (win : Window) (xs : List Float) (signs : List ℕ) : Type 0 where
  pub phase : win.current.phase < 4
  pub window : win ≡ window_of mode xs win.current
  pub usable : Usable win
  pub spanned : Spanned win (length xs)
  pub signed : signs ≡ band_signs mode

-- ---- a point i of the band, whose pilots are sent at the times, and a lent grid of n floats
pub record Placed (mode : Mode) (win : Window) (times : Times) (i n : ℕ) : Type 0 where
  pub band : i ≤ 13 * segment_points mode
  pub inside : Inside win.count times.sent
  pub timed : Timed win times
  pub room : n ≡ 2 * grid_points mode

-- what its pilots give
abbrev pub point_by : Window → Times → List Float → List ℕ → ℕ → Pair
point_by win times xs signs i = estimate_of win xs (carrier_of i) (inverse_of (get_or signs (carrier_of i).0 0)) (spectra_of times.sent)

-- ---- the lent grid: points from `from` to `to` hold f's values, the others what they held
pub record Written (f : ℕ → Pair) (from to : ℕ) (old now : List Float) : Type 0 where
  pub size : length now ≡ length old
  pub written : (i : ℕ) → from ≤ i → i < to → pair_at now i ≡ f i
  pub below : (i : ℕ) → i < from → pair_at now i ≡ pair_at old i
  pub above : (i : ℕ) → to ≤ i → pair_at now i ≡ pair_at old i
