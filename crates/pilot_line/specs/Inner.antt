-- The words of the contracts inside this crate, and of what `chanest` calls.
-- Definitions only.
use Rattle.std.specs.Prelude.{ℕ, ◌*◌, ◌≤◌, ◌<◌, List, ◌≡◌, Float}
use Rattle.std.specs.Float.{binary32}
use Rattle.ofdm.specs.declared.BandCarrier.{BandCarrier}
use Rattle.complex.specs.Complex.{Pair, scaled}
use Rattle.pilot_times.specs.declared.Window.{Window}
use Rattle.pilot_times.specs.declared.Sent.{Sent}
use Rattle.pilot_times.specs.Inner.{Inside}
use Rattle.pilot_line.specs.Estimate.{carrier_in}

-- ---- a carrier of the window: n floats are its spectra
pub record Spanned (win : Window) (n : ℕ) : Type 0 where
  pub floats : n ≡ 2 * (win.len * win.count)
  pub current : win.current.index < win.count
  pub few : win.count ≤ 1024
  pub narrow : win.len ≤ 5617

pub record Fitting (win : Window) (s : Sent) (k : BandCarrier) (n : ℕ) : Type 0 where
  pub spanned : Spanned win n
  pub carrier : k.0 < win.len
  pub inside : Inside win.count s

-- carrier k in spectrum s, with its pilot taken off
abbrev pub value_in : Window → List Float → BandCarrier → Float → ℕ → Pair
value_in win xs k inverse s = scaled binary32 (carrier_in win xs k s) inverse
