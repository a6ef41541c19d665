-- The window of an accepted call: its times can be looked for, with the band's signs it is captured, and the lent grid is whole.
-- Assumes nothing.
use Prim.Native.Nat.{ℕ, ◌+◌, ◌*◌, ◌/◌, ◌%◌, ◌≤◌, ◌<◌}
use mathlib.Core.List.{List}
use mathlib.Core.Path.{◌≡◌, ap}
use native.Mathlib.Decide.{dec_lt}
use native.Mathlib.Nat.{div-add-mod, mul_assoc}
use native.Mathlib.Omega.{arith}
use borrow.Author.Tests.{eq-eqb, ne_eqb}
use lib.ListN.{length}
use lib.Ieee.{Float}
use Rattle.params.specs.declared.Mode.{Mode}
use Rattle.params.specs.Params.{total_carriers}
use Rattle.params.specs.Laws.{sized}
use Rattle.prbs.specs.Signs.{band_signs}
use Rattle.pilot_times.specs.declared.Current.{Current}
use Rattle.pilot_times.specs.declared.Window.{Window}
use Rattle.pilot_times.specs.Window.{at_least_one}
use Rattle.pilot_times.specs.Inner.{Counted, Usable}
use Rattle.pilot_line.specs.Inner.{Spanned}
use Rattle.chanest.specs.Grid.{grid_points, window_of, window_code}
use Rattle.chanest.specs.Inner.{Captured}
use Rattle.chanest.specs.Codes.{Accepted, accepted}

-- windows that are the same have as many carriers a spectrum
pub as_long : {u v : Window} → u ≡ v → u.len ≡ v.len
as_long e = ap (λ (w : Window). w.len) e

at_least : (current : Current) → current.w ≤ 64 → Counted (at_least_one current)
at_least current h = by (dec_lt 0 current.w)
  where
    by : Dec (0 < current.w) → Counted (at_least_one current)
    by (yes p) = let e = ne_eqb current.w 0 (λ z. omega arith) in record { wide = rw e p; short = rw e h }
    by (no p) = let e = eq-eqb current.w 0 (omega arith) in record { wide = rw e (omega arith); short = rw e (omega arith) }

module _ (mode : Mode) (xs : List Float) (current : Current) (out : List Float) (z : window_code mode (length xs) current (length out) ≡ 0)
    {win : Window} (e : win ≡ window_of mode xs (at_least_one current)) where
  a : Accepted mode (length xs) current (length out)
  a = accepted mode (length xs) current (length out) z

  usable : Usable win
  usable = rw e (record { current = a.inside; few = a.few; counted = at_least current a.short })

  spanned : Spanned win (length xs)
  spanned =
      let k = total_carriers mode in
      let parts : 2 * k * (length xs / (2 * k)) + length xs % (2 * k) ≡ length xs = div-add-mod (length xs) (2 * k) in
      rw e
      (record {
        floats = omega (arith, a.whole, parts, mul_assoc 2 k (length xs / (2 * k)));
        current = a.inside;
        few = a.few;
        narrow = omega (arith, (sized mode).band_high);
      })

  pub captured : {signs : List ℕ} → signs ≡ band_signs mode → Captured mode win xs signs
  captured s = record { phase = rw e a.cycle; window = rw e; usable = usable; spanned = spanned; signed = s }

  pub room : length out ≡ 2 * grid_points mode
  room = a.room
