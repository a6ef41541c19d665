-- What demand 3 does to spectra and samples: a list of spectra of len pairs, each pair changed (complex/specs/Changes) and each bin moved; and
-- when an amplified list may be spoken of. Samples are spectra of one pair.
-- Definitions only.
use Rattle.std.specs.Prelude.{ℕ, ◌+◌, ◌*◌, ◌<◌, ◌≤◌, List, ◌⊎◌, ◌≡◌, length, Float}
use Rattle.complex.specs.Changes.{Change, changed_pair, most, WholePair}
use Rattle.spectra.specs.Spectra.{pair_at, spectra_in}

-- ys is xs, spectra of len pairs, changed, and bin b of each is moved to bin `move b`
pub record Changed (c : Change) (len : ℕ) (move : ℕ → ℕ) (xs ys : List Float) : Type 0 where
  pub long : length ys ≡ length xs
  pub pairs : (j b : ℕ) → j < spectra_in len (length xs) → b < len → pair_at ys (j * len + move b) ≡ changed_pair c j (pair_at xs (j * len + b))

-- the gain is 1, or it is at most 256 and all parts are whole numbers from -32,768 to 32,768
pub record Wholes (len : ℕ) (xs : List Float) : Type 0 where
  pub pairs : (j b : ℕ) → j < spectra_in len (length xs) → b < len → WholePair (pair_at xs (j * len + b))

abbrev pub Allowed : Change → ℕ → List Float → Type 0
Allowed c len xs = (c.gain ≡ 0) ⊎ ((c.gain ≤ most) × Wholes len xs)
