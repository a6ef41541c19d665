-- What the line is, by how many spectra there are: none, one, or more.
-- Assumes nothing.
use Prim.Native.Nat.{ℕ, ◌+◌, ◌*◌, ◌<◌}
use mathlib.Core.Bool.{true, false, cond}
use mathlib.Core.List.{List, [], ◌∷◌, map, map-map}
use mathlib.Core.Path.{◌≡◌, refl, ◌∙◌}
use native.Mathlib.Omega.{arith}
use lib.ListN.{length, length-map}
use lib.Ieee.{Float, binary32, sub, le}
use Rattle.lists.specs.Select.{length_up_to}
use Rattle.ieee.specs.Constants.{plus_zero}
use Rattle.ofdm.specs.declared.BandCarrier.{BandCarrier}
use Rattle.complex.specs.Complex.{Pair, plus, scaled, divided}
use Rattle.pilot_times.specs.declared.Window.{Window}
use Rattle.pilot_times.specs.declared.Sent.{Sent}
use Rattle.pilot_times.specs.declared.Times.{Times}
use Rattle.pilot_line.specs.Line.{Point, xs_of, values_of, mean_pair, slope_sum, at_zero, fitted, line_at_zero}
use Rattle.pilot_times.specs.Window.{offset_of}
use Rattle.pilot_times.specs.Inner.{spectrum_of, spectra_of, Timed}
use Rattle.pilot_line.specs.Estimate.{carrier_in, points_in, estimate_of}
use Rattle.pilot_line.specs.Inner.{value_in}

two_more : (none : Pair) (ps : List Point) → 1 < length ps → line_at_zero none ps ≡ fitted ps
unfolding line_at_zero
two_more none [] h = absurd (omega arith)
two_more none (p ∷ []) h = absurd (omega arith)
two_more none (p ∷ q ∷ ps) h = refl

module _ (win : Window) (xs : List Float) (k : BandCarrier) (inverse : Float) where
  -- the offsets of the points, their values, and how many there are
  module _ (ss : List ℕ) where
    xs_in : xs_of (points_in win xs k inverse ss) ≡ map (offset_of win) ss
    unfolding points_in
    xs_in = map-map _ _ ss

    values_in : values_of (points_in win xs k inverse ss) ≡ map (value_in win xs k inverse) ss
    unfolding points_in
    values_in = map-map _ _ ss

    length_in : length (points_in win xs k inverse ss) ≡ length ss
    unfolding points_in
    length_in = length-map ss _

  pub none_is : (s : Sent) → s.count ≡ 0 → estimate_of win xs k inverse (spectra_of s) ≡ carrier_in win xs k win.current.index
  unfolding estimate_of points_in line_at_zero
  none_is s e = rw e

  pub one_is : (s : Sent) → s.count ≡ 1 → estimate_of win xs k inverse (spectra_of s) ≡ value_in win xs k inverse s.first
  unfolding estimate_of points_in line_at_zero
  one_is s e = let f : s.first + s.step * 0 ≡ s.first = omega arith in rw (e, f)

  module _ (r : Times) (h : 1 < r.sent.count) (timed : Timed win r) (vm : Pair)
      (m : vm ≡ mean_pair (map (value_in win xs k inverse) (spectra_of r.sent))) where
    line : Pair
    line =
        cond (le r.spread (plus_zero binary32)) vm
        (at_zero r.mean vm r.spread (slope_sum r.mean vm (points_in win xs k inverse (spectra_of r.sent))))

    line_is : estimate_of win xs k inverse (spectra_of r.sent) ≡ line
    unfolding estimate_of fitted line
    line_is =
        let ss = spectra_of r.sent in
        two_more _ _ (rw (length_in ss, length_up_to (spectrum_of r.sent) r.sent.count) h)
        ∙ rw (xs_in ss, values_in ss, m, timed.width, timed.middle)

    pub flat_is : le r.spread (plus_zero binary32) ≡ true → estimate_of win xs k inverse (spectra_of r.sent) ≡ vm
    unfolding line
    flat_is e = line_is ∙ rw e

    -- the calls compute the line at 0
    pub at_zero_is : le r.spread (plus_zero binary32) ≡ false → (sum slope back v : Pair)
        → sum ≡ slope_sum r.mean vm (points_in win xs k inverse (spectra_of r.sent)) → slope ≡ divided binary32 sum r.spread
        → back ≡ scaled binary32 slope (sub binary32 (plus_zero binary32) r.mean) → v ≡ plus binary32 vm back
        → v ≡ estimate_of win xs k inverse (spectra_of r.sent)
    unfolding line
    at_zero_is e sum slope back v p q b w = rw (line_is, e, w, b, q, p)
