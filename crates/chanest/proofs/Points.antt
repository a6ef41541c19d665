-- The points of a grid: that they lie in the band, and that what their times give there is what the definition has.
-- Assumes nothing.
use Prim.Native.Nat.{ℕ, ◌+◌, ◌*◌, ◌/◌, ◌≤◌, ◌<◌}
use mathlib.Core.List.{List}
use mathlib.Core.Path.{◌≡◌, subst}
use native.Mathlib.Omega.{arith}
use lib.ListN.{get_or, length}
use lib.Ieee.{Float}
use Rattle.params.specs.declared.Mode.{Mode}
use Rattle.params.specs.Params.{carriers_per_segment}
use Rattle.ofdm.specs.declared.BandCarrier.{BandCarrier}
use Rattle.complex.specs.Complex.{Pair}
use Rattle.spectra.specs.Spectra.{with_pair}
use Rattle.pilot_times.specs.declared.Window.{Window}
use Rattle.pilot_times.specs.declared.Offsets.{Offsets}
use Rattle.pilot_times.specs.declared.Times.{Times}
use Rattle.pilot_times.specs.declared.Scattered.{Scattered}
use Rattle.pilot_times.specs.Window.{scattered_offsets, in_window}
use Rattle.pilot_times.specs.Inner.{TimesOf, ScatteredTimes, SentAgo}
use Rattle.pilot_line.specs.Estimate.{inverse_of, estimate_of}
use Rattle.chanest.specs.Grid.{carrier_of, back_of, segment_points, grid_points, estimate_at}
use Rattle.chanest.specs.Places.{pointed}
use Rattle.chanest.specs.Inner.{Captured, Placed, point_by, Written}
use Rattle.chanest.proofs.Writing.{nothing, one_more}

-- the estimate at carrier k of a window, whose pilot is sent at the offsets o
abbrev pub window_at : Window → List Float → List ℕ → BandCarrier → Offsets → Pair
window_at win xs signs k o = estimate_of win xs k (inverse_of (get_or signs k.0 0)) (in_window win o)

-- the times of the pilots that were sent last as many symbols ago as point i's
pub sent_ago : (win : Window) (s : Scattered) → ScatteredTimes win s → {back : ℕ} (i : ℕ) → back ≡ back_of win.current i → {r : Times} → SentAgo s back r
    → TimesOf win (scattered_offsets win.current (back_of win.current i)) r
sent_ago win s t i e {r} sent = subst (λ (b : ℕ). TimesOf win (scattered_offsets win.current b) r) e (sent.ago win t)

-- a segment that ends within the band has the band's points, where c is the code's count of its carriers
pub within : (mode : Mode) (c from i : ℕ) → c ≡ carriers_per_segment mode → from + segment_points mode ≤ 13 * segment_points mode → i < from + c / 3
    → i ≤ 13 * segment_points mode
within mode c from i e l h = omega (arith, e)

module _ {mode : Mode} {win : Window} {xs : List Float} {signs : List ℕ} (C : Captured mode win xs signs) where
  -- which is what the definition has there
  pub by_window : (k : BandCarrier) (o : Offsets) → window_at win xs signs k o ≡ estimate_at mode xs win.current k o
  unfolding estimate_at
  by_window k o = λ i. window_at (C.window i) xs (C.signed i) k o

-- a point of the band of a whole grid, whose pilot is sent at the offsets o
module _ (mode : Mode) {i : ℕ} (l : i ≤ 13 * segment_points mode) {win : Window} {o : Offsets} {r : Times} (t : TimesOf win o r) where
  pub placed : {n : ℕ} → n ≡ 2 * grid_points mode → Placed mode win r i n
  placed room = record { band = l; inside = t.reached.inside; timed = t.timed; room = room }

  -- once it is stored, the grid holds there what the pilots of the window give
  pub stored : {out : List Float} → length out ≡ 2 * grid_points mode → (xs : List Float) (signs : List ℕ) (f : ℕ → Pair) {now : List Float}
      → window_at win xs signs (carrier_of i) o ≡ f i → now ≡ with_pair out i (point_by win r xs signs i) → Written f i (i + 1) out now
  stored {out} room xs signs f q e =
      one_more (point_by win r xs signs i) (nothing f i out) e (omega arith) (omega (arith, room, l, (pointed mode).all)) (rw t.reached.spectra q)
