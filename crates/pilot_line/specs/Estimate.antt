-- A carrier's pilots in the spectra of a window, and what they tell of the channel there (chanest.rs, `estimate`; document 01, "The grid").
-- Definitions only.
use Rattle.std.specs.Prelude.{ℕ, ◌+◌, ◌*◌, List, map, Float}
use Rattle.std.specs.Float.{binary32}
use Rattle.std.specs.Float.Ieee.{div, of_bits}
use Rattle.ofdm.specs.declared.BandCarrier.{BandCarrier}
use Rattle.complex.specs.Complex.{Pair, scaled}
use Rattle.spectra.specs.Spectra.{pair_at}
use Rattle.pilots.specs.Pilots.{pilot_value}
use Rattle.pilot_times.specs.declared.Window.{Window}
use Rattle.pilot_times.specs.Window.{offset_of}
use Rattle.pilot_line.specs.Line.{Point, point, line_at_zero}

-- 1.0 divided by the pilot of a sign
abbrev pub inverse_of : ℕ → Float
inverse_of sign = div binary32 (of_bits binary32 0x3f80_0000) (pilot_value sign).re

-- ---- the points of a carrier in the spectra ss: the offset from the current one, and the carrier's value with its pilot taken off
-- carrier k of spectrum s
abbrev pub carrier_in : Window → List Float → BandCarrier → ℕ → Pair
carrier_in win xs k s = pair_at xs (s * win.len + k.0)

unfoldable pub points_in : Window → List Float → BandCarrier → Float → List ℕ → List Point
points_in win xs k inverse ss = map (λ s. point (offset_of win s) (scaled binary32 (carrier_in win xs k s) inverse)) ss

-- the line through them at the current symbol; with none, the carrier as the current spectrum has it
unfoldable pub estimate_of : Window → List Float → BandCarrier → Float → List ℕ → Pair
estimate_of win xs k inverse ss = line_at_zero (carrier_in win xs k win.current.index) (points_in win xs k inverse ss)
