-- The spectra of a window around the current one, and those in which a carrier's pilot is sent (chanest.rs, `estimate`; document 01, "The
-- grid"). The spectra count as consecutive symbols, so an offset from the current symbol is the difference of two numbers of spectra.
-- Definitions only.
use Rattle.std.specs.Prelude.{ℕ, suc, ◌+◌, ◌-◌, ◌*◌, ◌%◌, cond, List, [], ◌∷◌, map, eqb, ltb, ℤ, pos, negsuc, length, Float}
use Rattle.std.specs.Float.{binary32}
use Rattle.std.specs.Float.Ieee.{mul, sub, div, minus, of_int}
use Rattle.lists.specs.Lists.{up_to, joined}
use Rattle.ieee.specs.Constants.{minus_zero}
use Rattle.ieee.specs.Sums.{total}
use Rattle.pilot_times.specs.declared.Current.{Current}
use Rattle.pilot_times.specs.declared.Window.{Window}
use Rattle.pilot_times.specs.declared.Offsets.{Offsets}

-- a time window of 0 counts as 1
abbrev pub at_least_one : Current → Current
at_least_one current = record { phase = current.phase; index = current.index; w = cond (eqb current.w 0) 1 current.w }

-- ---- offsets: the first `before` symbols before the current one, then `step` apart
abbrev pub offsets : Offsets → List ℤ
offsets o = up_to (λ i. minus (o.step * i) o.before) o.count

-- a scattered pilot, sent last `back` symbols ago and every fourth symbol: 4 i - back for i from -(w - 1) to w
abbrev pub scattered_offsets : Current → ℕ → Offsets
scattered_offsets current back = record { before = 4 * (current.w - 1) + back; step = 4; count = 2 * current.w }

-- a continual pilot, sent in every symbol: from -(2 w - 1) to 2 w - 1
abbrev pub continual_offsets : Current → Offsets
continual_offsets current = record { before = 2 * current.w - 1; step = 1; count = 4 * current.w - 1 }

-- ---- the spectrum at an offset from the current one, if the window has it
abbrev pub at_offset : Window → ℤ → List ℕ
at_offset win (pos d) = cond (ltb (win.current.index + d) win.count) ((win.current.index + d) ∷ []) []
at_offset win (negsuc d) = cond (ltb d win.current.index) ((win.current.index - suc d) ∷ []) []

unfoldable pub in_window : Window → Offsets → List ℕ
in_window win o = joined (at_offset win) (offsets o)

-- the phase of spectrum s: phases count on from symbol to symbol, round four; 4 index is added first, since ℕ stops at 0
abbrev pub phase_in : Current → ℕ → ℕ
phase_in current s = (current.phase + s + 4 * current.index - current.index) % 4

-- ---- the offset of spectrum s as a float; mean and spread of such numbers. Real sums start at -0.0
abbrev pub offset_of : Window → ℕ → Float
offset_of win s = of_int binary32 (minus s win.current.index)

unfoldable pub mean : List Float → Float
mean xs = div binary32 (total binary32 minus_zero xs) (of_int binary32 (pos (length xs)))

-- the square of x - xm
abbrev pub squared : Float → Float → Float
squared xm x = mul binary32 (sub binary32 x xm) (sub binary32 x xm)

unfoldable pub spread : Float → List Float → Float
spread xm xs = total binary32 minus_zero (map (squared xm) xs)
