-- A straight line through points by least squares, at 0 (chanest.rs, `ls_line_at_zero`). Complex sums start at +0.0, the real ones of
-- `pilot_times` at -0.0.
-- Definitions only.
use Rattle.std.specs.Prelude.{cond, List, [], ◌∷◌, map, pos, length, Float}
use Rattle.std.specs.Float.{binary32}
use Rattle.std.specs.Float.Ieee.{sub, le, of_int}
use Rattle.ieee.specs.Constants.{plus_zero}
use Rattle.complex.specs.Complex.{Pair, pair, plus, minus, scaled, divided}
use Rattle.complex.specs.Totals.{totals}
use Rattle.pilot_times.specs.Window.{mean, spread}

-- a value at x
pub record Point : Type 0 where
  pub x : Float
  pub value : Pair

abbrev pub point : Float → Pair → Point
point x v = record { x = x; value = v }

abbrev pub xs_of : List Point → List Float
xs_of ps = map (λ (p : Point). p.x) ps

abbrev pub values_of : List Point → List Pair
values_of ps = map (λ (p : Point). p.value) ps

-- ---- the sums
unfoldable pub mean_pair : List Pair → Pair
mean_pair vs = divided binary32 (totals binary32 (pair (plus_zero binary32) (plus_zero binary32)) vs) (of_int binary32 (pos (length vs)))

-- v - vm, times x - xm
abbrev pub leaning : Float → Pair → Point → Pair
leaning xm vm p = scaled binary32 (minus binary32 p.value vm) (sub binary32 p.x xm)

unfoldable pub slope_sum : Float → Pair → List Point → Pair
slope_sum xm vm ps = totals binary32 (pair (plus_zero binary32) (plus_zero binary32)) (map (leaning xm vm) ps)

-- ---- the line
-- the line of mean xm and vm, spread sxx and slope sum sxv, at 0
abbrev pub at_zero : Float → Pair → Float → Pair → Pair
at_zero xm vm sxx sxv = plus binary32 vm (scaled binary32 (divided binary32 sxv sxx) (sub binary32 (plus_zero binary32) xm))

-- two points or more: where they are not spread, their mean
unfoldable pub fitted : List Point → Pair
fitted ps =
    let xm = mean (xs_of ps) in
    let vm = mean_pair (values_of ps) in
    let sxx = spread xm (xs_of ps) in
    cond (le sxx (plus_zero binary32)) vm (at_zero xm vm sxx (slope_sum xm vm ps))

-- one point is its own value; where there is none, another value stands in
unfoldable pub line_at_zero : Pair → List Point → Pair
line_at_zero none [] = none
line_at_zero none (p ∷ []) = p.value
line_at_zero none (p ∷ q ∷ ps) = fitted (p ∷ q ∷ ps)
