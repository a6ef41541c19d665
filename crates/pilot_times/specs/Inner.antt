-- The words of the contracts inside this crate, and of what `pilot_line` and `chanest` call.
-- Definitions only.
use Rattle.std.specs.Prelude.{ℕ, ◌+◌, ◌*◌, ◌≤◌, ◌<◌, List, map, ◌≡◌, Float, get_or, from_bits}
use Rattle.std.specs.List.{fold, range_with_len}
use Rattle.std.specs.Float.{binary32}
use Rattle.std.specs.Float.Ieee.{add, neg}
use Rattle.lists.specs.Lists.{up_to}
use Rattle.pilot_times.specs.declared.Current.{Current}
use Rattle.pilot_times.specs.declared.Window.{Window}
use Rattle.pilot_times.specs.declared.Offsets.{Offsets}
use Rattle.pilot_times.specs.declared.Sent.{Sent}
use Rattle.pilot_times.specs.declared.Times.{Times}
use Rattle.pilot_times.specs.declared.Scattered.{Scattered}
use Rattle.pilot_times.specs.Window.{scattered_offsets, continual_offsets, in_window, offset_of, mean, spread}

-- ---- the spectra in which a carrier's pilot is sent
abbrev pub spectrum_of : Sent → ℕ → ℕ
spectrum_of s i = s.first + s.step * i

abbrev pub spectra_of : Sent → List ℕ
spectra_of s = up_to (spectrum_of s) s.count

-- they lie within a window of n
pub record Inside (n : ℕ) (s : Sent) : Type 0 where
  pub inside : (i : ℕ) → i < s.count → spectrum_of s i < n
  pub few : s.count ≤ n
  pub start : s.first ≤ n
  pub near : s.step ≤ 4

-- as many scattered pilots on each side as an accepted call has
pub record Counted (current : Current) : Type 0 where
  pub wide : 0 < current.w
  pub short : current.w ≤ 64

-- a window, and offsets that can be looked for in it
pub record Searchable (win : Window) (o : Offsets) : Type 0 where
  pub current : win.current.index < win.count
  pub few : win.count ≤ 1024
  pub forward : 0 < o.step
  pub near : o.step ≤ 4
  pub early : o.before ≤ 512
  pub short : o.count ≤ 512

-- the offsets before a window whose current spectrum is t: s of them
pub record Skippable (o : Offsets) : Type 0 where
  pub forward : 0 < o.step
  pub near : o.step ≤ 4
  pub early : o.before ≤ 512

pub record Skipped (t : ℕ) (o : Offsets) (s : ℕ) : Type 0 where
  pub ahead : (i : ℕ) → i < s → t + o.step * i < o.before
  pub covered : o.before ≤ t + o.step * s
  pub near : o.step * s ≤ o.before + o.step

pub record Reached (win : Window) (o : Offsets) (s : Sent) : Type 0 where
  pub spectra : spectra_of s ≡ in_window win o
  pub inside : Inside win.count s

-- the sum of g over them, as std's `sum` adds: from -0.0
abbrev pub sum_at : (ℕ → Float) → Sent → Float
sum_at g s = fold (λ a x. add binary32 a x) (neg (from_bits binary32 0)) (map (λ i. g (spectrum_of s i)) (range_with_len 0 s.count))

-- ---- their offsets from the current spectrum
abbrev pub offsets_of : Window → Sent → List Float
offsets_of win s = map (offset_of win) (spectra_of s)

pub record Timed (win : Window) (r : Times) : Type 0 where
  pub middle : r.mean ≡ mean (offsets_of win r.sent)
  pub width : r.spread ≡ spread r.mean (offsets_of win r.sent)

pub record TimesOf (win : Window) (o : Offsets) (r : Times) : Type 0 where
  pub reached : Reached win o r.sent
  pub timed : Timed win r

-- ---- the times of all pilots of a window
-- the current spectrum is in it, and the times can be looked for
pub record Usable (win : Window) : Type 0 where
  pub current : win.current.index < win.count
  pub few : win.count ≤ 1024
  pub counted : Counted win.current

-- the times of the scattered pilots, sent last `back` symbols ago
abbrev pub ScatteredAgo : Window → ℕ → Times → Type 0
ScatteredAgo win back r = TimesOf win (scattered_offsets win.current back) r

abbrev pub ScatteredTimes : Window → Scattered → Type 0
ScatteredTimes win s = (back : ℕ) (none : Times) → back < 4 → ScatteredAgo win back (get_or s.ago back none)

pub record SentAgo (s : Scattered) (back : ℕ) (r : Times) : Type 0 where
  pub ago : (win : Window) → ScatteredTimes win s → ScatteredAgo win back r

abbrev pub ContinualTimes : Window → Times → Type 0
ContinualTimes win r = TimesOf win (continual_offsets win.current) r
