-- The pilot grid (chanest.rs, the first two parts of `estimate`; document 01, "The grid"): every third carrier of the coherent segments, and
-- the continual pilot next above a coherent segment whose upper neighbour is not coherent. The rest of the grid keeps its contents.
-- Definitions only.
use Rattle.std.specs.Prelude.{ℕ, ◌+◌, ◌-◌, ◌*◌, ◌/◌, ◌%◌, Bool, cond, ◌&&◌, List, ◌≡◌, eqb, leb, ltb, get_or, length, Float, Option, Some, None}
use Rattle.lists.specs.Lists.{up_to}
use Rattle.lists.specs.Refusals.{unless}
use Rattle.params.specs.declared.Mode.{Mode}
use Rattle.params.specs.Params.{carriers_per_segment, total_carriers}
use Rattle.ofdm.specs.declared.BandCarrier.{BandCarrier}
use Rattle.ofdm.specs.Band.{segment_at}
use Rattle.complex.specs.Complex.{Pair}
use Rattle.spectra.specs.Spectra.{pair_at, flat, spectra_in, spectra_code}
use Rattle.prbs.specs.Signs.{band_signs}
use Rattle.frame.specs.Operations.{are_kinds}
use Rattle.pilot_times.specs.declared.Current.{Current}
use Rattle.pilot_times.specs.declared.Window.{Window}
use Rattle.pilot_times.specs.declared.Offsets.{Offsets}
use Rattle.pilot_times.specs.Window.{at_least_one, scattered_offsets, continual_offsets, in_window}
use Rattle.pilot_line.specs.Estimate.{inverse_of, estimate_of}

-- ---- where the points lie: point i is carrier 3 i
abbrev pub carrier_of : ℕ → BandCarrier
carrier_of i = record { 0 = 3 * i }

-- how many points a segment has, and the lent grid
abbrev pub segment_points : Mode → ℕ
segment_points mode = carriers_per_segment mode / 3

abbrev pub grid_points : Mode → ℕ
grid_points mode = total_carriers mode / 3 + 2

-- whether the segment at a place of the band is coherent; beyond the thirteenth there is none
abbrev pub coherent_at : List ℕ → ℕ → Bool
coherent_at kinds place = ltb place 13 && eqb (get_or kinds (segment_at place) 0) 0

abbrev pub is_scattered : Mode → List ℕ → ℕ → Bool
is_scattered mode kinds i = coherent_at kinds (i / segment_points mode)

-- the lowest carrier of a place, the place below being coherent
abbrev pub is_closing : Mode → List ℕ → ℕ → Bool
is_closing mode kinds i = eqb (i % segment_points mode) 0 && (ltb 0 i && coherent_at kinds (i / segment_points mode - 1))

-- ---- the estimates
-- the symbols since carrier 3 i last had its scattered pilot
abbrev pub back_of : Current → ℕ → ℕ
back_of current i = (current.phase + 4 - i % 4) % 4

-- the window that xs are
abbrev pub window_of : Mode → List Float → Current → Window
window_of mode xs current = record { len = total_carriers mode; count = spectra_in (total_carriers mode) (length xs); current = current }

-- carrier k, whose pilot is sent at the offsets o from the current symbol
unfoldable pub estimate_at : Mode → List Float → Current → BandCarrier → Offsets → Pair
estimate_at mode xs current k o =
    let win = window_of mode xs current in
    estimate_of win xs k (inverse_of (get_or (band_signs mode) k.0 0)) (in_window win o)

-- point i by its scattered pilots, and by its continual pilot
abbrev pub scattered_at : Mode → List Float → Current → ℕ → Pair
scattered_at mode xs current i = estimate_at mode xs current (carrier_of i) (scattered_offsets current (back_of current i))

abbrev pub continual_at : Mode → List Float → Current → ℕ → Pair
continual_at mode xs current i = estimate_at mode xs current (carrier_of i) (continual_offsets current)

-- what the grid holds at point i, where `old` was lent
unfoldable pub value_at : Mode → List ℕ → List Float → Current → Pair → ℕ → Pair
value_at mode kinds xs current old i =
    cond (is_scattered mode kinds i) (scattered_at mode xs current i)
    (cond (is_closing mode kinds i) (continual_at mode xs current i) old)

unfoldable pub grid_of : Mode → List ℕ → List Float → Current → List Float → List Float
grid_of mode kinds xs current old = flat (up_to (λ i. value_at mode kinds xs current (pair_at old i) i) (grid_points mode))

abbrev pub grid : Mode → List ℕ → List Float → Current → List Float → List Float
grid mode kinds xs current old = grid_of mode kinds xs (at_least_one current) old

-- ---- the operation: 1; 2; 3; 5; 6; 4 for an index outside; 10 for w above 64; 7 unless k_total/3 + 2 pairs
-- what refuses the numbers beside mode and kinds, or 0: n floats are lent as the grid
unfoldable pub window_code : Mode → ℕ → Current → ℕ → ℕ
window_code mode floats current n =
    let len = total_carriers mode in
    unless (ltb current.phase 4) 3 (spectra_code len floats
    (unless (ltb current.index (spectra_in len floats)) 4 (unless (leb current.w 64) 10 (unless (eqb n (2 * grid_points mode)) 7 0))))

unfoldable pub grid_code : Option Mode → List ℕ → ℕ → Current → ℕ → ℕ
grid_code None kinds floats current n = 1
grid_code (Some m) kinds floats current n = unless (are_kinds kinds) 2 (window_code m floats current n)

-- the lent grid at exit
unfoldable pub grid_leaves : Option Mode → List ℕ → List Float → Current → List Float → List Float
grid_leaves None kinds xs current old = old
grid_leaves (Some m) kinds xs current old =
    cond (eqb (grid_code (Some m) kinds (length xs) current (length old)) 0) (grid m kinds xs current old) old

pub record GridEstimated (mode : Option Mode) (kinds : List ℕ) (xs : List Float) (current : Current) (old : List Float) (r : ℕ) (now : List Float)
    : Type 0 where
  pub code : r ≡ grid_code mode kinds (length xs) current (length old)
  pub leaves : now ≡ grid_leaves mode kinds xs current old
