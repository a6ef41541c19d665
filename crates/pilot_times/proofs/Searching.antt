-- What `skipped` and `sent_in` work out: how many offsets lie before the window, and how many of the others in it.
-- Assumes nothing.
use Prim.Native.Nat.{ℕ, ◌+◌, ◌-◌, ◌*◌, ◌/◌, ◌≤◌, ◌<◌, min}
use mathlib.Core.Path.{◌≡◌}
use native.Mathlib.Nat.{mul-le-mul_left, lt-mul-div-succ, mul-div-le, div-le_self}
use native.Mathlib.Omega.{arith}
use mir.Syntax.{w64}
use mir.Val.{Fits}
use Rattle.pilot_times.specs.declared.Window.{Window}
use Rattle.pilot_times.specs.declared.Offsets.{Offsets}
use Rattle.pilot_times.specs.declared.Sent.{Sent}
use Rattle.pilot_times.specs.Inner.{Searchable, Skipped, Reached}
use Rattle.pilot_times.specs.Reaching.{Met, window}

pub room_fits : (x step : ℕ) → x < 1024 → Fits w64 (x / step + 1)
room_fits x step h = omega (arith, div-le_self x step)

abbrev sent_from : ℕ → ℕ → ℕ → Sent
sent_from first step m = record { first = first; step = step; count = m }

module _ (win : Window) (o : Offsets) (h : Searchable win o) where
  abbrev t : ℕ
  t = win.current.index

  met : (first s m : ℕ) → Met win o first s m → m ≤ win.count → first ≤ win.count → Reached win o (sent_from first o.step m)
  met first s m r l f =
      record {
        spectra = window win o first s m r h.current;
        inside = record { inside = r.inside; few = l; start = f; near = h.near };
      }

  -- none in the window: s offsets before it, the others behind it
  none : (s : ℕ) → s ≤ o.count → ((i : ℕ) → i < s → t + o.step * i < o.before)
      → ((i : ℕ) → s ≤ i → i < o.count → win.count + o.before ≤ t + o.step * i) → Reached win o (sent_from 0 o.step 0)
  none s l a b =
      met 0 s 0
      (record {
        few = omega arith;
        ahead = a;
        start = λ p. absurd (omega arith);
        inside = λ i p. absurd (omega arith);
        behind = λ i p q. b i (omega arith) q;
      })
      (omega arith) (omega arith)

  module _ (s : ℕ) (k : Skipped t o s) where
    pub all_before : o.count ≤ s → Reached win o (sent_from 0 o.step 0)
    all_before l = none o.count (omega arith) (λ i p. k.ahead i (omega arith)) (λ i p q. absurd (omega arith))

    pub all_behind : s < o.count → win.count ≤ t + o.step * s - o.before → Reached win o (sent_from 0 o.step 0)
    all_behind l b = none s (omega arith) k.ahead (λ i p q. omega (arith, mul-le-mul_left o.step p, k.covered, h.current))

    -- m of them: as many as there are, or as the window has room for
    pub some_inside : (m : ℕ) → s < o.count → t + o.step * s - o.before < win.count
        → m ≡ min ((win.count - 1 - (t + o.step * s - o.before)) / o.step + 1) (o.count - s)
        → Reached win o (sent_from (t + o.step * s - o.before) o.step m)
    some_inside m l b e =
        let step = o.step in
        let first : ℕ = t + step * s - o.before in
        let x : ℕ = win.count - 1 - first in
        let fit : step * (x / step) ≤ x = mul-div-le x step in
        let full : x < step * (x / step + 1) = lt-mul-div-succ x h.forward in
        met first s m
        (record {
          few = omega arith;
          ahead = k.ahead;
          start = λ p. omega (arith, k.covered);
          inside = λ i p. let q : i ≤ x / step = omega arith in omega (arith, mul-le-mul_left step q);
          behind = λ i p q. let z : s + (x / step + 1) ≤ i = omega arith in omega (arith, mul-le-mul_left step z, k.covered);
        })
        (omega (arith, div-le_self x step)) (omega arith)
