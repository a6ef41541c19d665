-- The search at an offset, from the sums in the scratch.
-- Assumes nothing.
use Rattle.std.specs.Prelude.{Option}
use Prim.Native.Nat.{ℕ, ◌+◌, ◌/◌}
use mathlib.Core.List.{List}
use mathlib.Core.Path.{◌≡◌, sym, ap, ◌∙◌}
use native.Mathlib.Numerals.{add-one}
use lib.Ieee.{Float}
use Rattle.lists.specs.Lists.{range}
use Rattle.samples_needed.specs.Samples.{fft_of, guard_of, symbol_of}
use Rattle.correlation.specs.declared.Window.{Window}
use Rattle.correlation.specs.Correlation.{lags_in, real_prefixes, imaginary_prefixes, energy_prefixes, starts}
use Rattle.correlation.specs.Inner.{reals, imaginaries, energies, Holds, Windowed}
use Rattle.correlation.specs.Held.{sum_by}
use Rattle.guess.specs.declared.ModeGuess.{ModeGuess}
use Rattle.guess.specs.Guess.{correlation_at, energy_at, guess_at, offered, scan}
use Rattle.guess.specs.Facts.{scan_last}
use Rattle.guess.specs.Inner.{guess_of, better_of}

-- ---- one offset more
pub next_number : (f : Option ModeGuess → ℕ → Option ModeGuess) (b r s : Option ModeGuess) (d : ℕ) → r ≡ scan f b (range d)
    → s ≡ f r d → s ≡ scan f b (range (d + 1))
next_number f b r s d e g = rw add-one (g ∙ (ap (λ (z : Option ModeGuess). f z d) e ∙ sym (scan_last f b (range d) d)))

-- ---- an offset
module _ (xs sums : List Float) (mode guard d : ℕ) (w : Window) (h : Holds (fft_of mode) xs sums)
    (g : Windowed sums (guard_of mode guard) (starts (symbol_of mode guard) (guard_of mode guard) (lags_in (fft_of mode) xs) d) w) where
  energy_is : w.energy ≡ energy_at xs mode guard d
  unfolding energy_at
  energy_is = g.energy ∙ sum_by energies sums (energy_prefixes (fft_of mode) xs) _ _ _ d h.energy

  guess_is : guess_of mode guard d w ≡ guess_at xs mode guard d
  unfolding guess_at correlation_at
  guess_is = rw (
    g.re ∙ sum_by reals sums (real_prefixes (fft_of mode) xs) _ _ _ d h.re,
    g.im ∙ sum_by imaginaries sums (imaginary_prefixes (fft_of mode) xs) _ _ _ d h.im,
    energy_is,
  )

  offered_is : (b : Option ModeGuess) → better_of b w.energy (guess_of mode guard d w) ≡ offered xs mode guard b d
  offered_is b = rw (guess_is, energy_is)

-- ---- a guard, where n is the mode's size and len the number of samples n apart
module _ (xs : List Float) (mode guard n len : ℕ) (e : n ≡ fft_of mode) (l : len ≡ lags_in (fft_of mode) xs) where
  pub next_offset : (sums : List Float) (b s : Option ModeGuess) (d : ℕ) (w : Window) → Holds (fft_of mode) xs sums
      → Windowed sums (n / guard) (starts (n + n / guard) (n / guard) len d) w
      → s ≡ better_of b w.energy (guess_of mode guard d w) → s ≡ offered xs mode guard b d
  next_offset sums b s d w h g q = q ∙ offered_is xs sums mode guard d w h (rw (e, l) at g) b
