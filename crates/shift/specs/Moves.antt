-- What it is to move spectra and to beat (document 01, "Ratios, shift and kinds"): moving by s, a signed whole number, puts bin b into bin
-- (b + s) mod n (`moved_bin`); to beat is to have the greater score, which no NaN does or suffers; and a shift's score is the sum of the ratios at
-- its bins, taken mod n also for a shift beyond the bound, divided by their number.
-- Definitions only.
use Rattle.std.specs.Prelude.{ℕ, ◌≤◌, ◌<◌, List, ◌≡◌, T, ℤ, nat_abs, get_or, Float}
use Rattle.std.specs.Float.{nan}
use Rattle.std.specs.Float.Ieee.{lt}
use Rattle.shift.specs.Shift.{moved_bin, sum_at, score_of}

-- from -range to range
abbrev pub InRange : ℕ → ℤ → Type 0
InRange range z = nat_abs z ≤ range

-- the score of shift z, by the ratios of n bins
abbrev pub score_at : ℕ → List ℕ → List Float → ℤ → Float
score_at n bins ratios z = score_of bins (sum_at n bins ratios z)

-- z beats every other shift of the range
abbrev pub BeatsAll : ℕ → List ℕ → List Float → ℕ → ℤ → Type 0
BeatsAll n bins ratios range z = (y : ℤ) → InRange range y → (y ≡ z → ⊥) → T (lt (score_at n bins ratios y) (score_at n bins ratios z))

-- new are the n ratios old, moved round by s
abbrev pub MovedRound : ℕ → ℤ → List Float → List Float → Type 0
MovedRound n s old new = (b : ℕ) → b < n → get_or new (moved_bin n b s) nan ≡ get_or old b nan
