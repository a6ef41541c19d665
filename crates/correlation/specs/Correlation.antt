-- The correlation of samples n apart (acquire.rs, `detect_mode`; document 01, "The guess"): prefix sums of the lagged products and of the halved
-- energies, and from them the sum over the guards of an offset.
-- Definitions only.
use Rattle.std.specs.Prelude.{ℕ, ◌+◌, ◌-◌, ◌*◌, ◌/◌, List, map, length, nat_le, slice_index_or, Float}
use Rattle.std.specs.Float.{nan, binary32, binary64}
use Rattle.std.specs.Float.Ieee.{add, sub, mul}
use Rattle.ieee.specs.Constants.{plus_zero, half}
use Rattle.ieee.specs.Sums.{total, prefixes}
use Rattle.lists.specs.Lists.{up_to, select}
use Rattle.complex.specs.Complex.{Pair, product, conjugate, squared_size}
use Rattle.spectra.specs.Spectra.{pair_at}

-- ---- samples n apart: how many such pairs there are, their product, half of their energy
abbrev pub pairs_in : ℕ → ℕ
pairs_in floats = floats / 2

abbrev pub lags_in : ℕ → List Float → ℕ
lags_in n xs = pairs_in (length xs) - n

abbrev pub lag_product : ℕ → List Float → ℕ → Pair
lag_product n xs i = product binary32 (pair_at xs i) (conjugate (pair_at xs (i + n)))

abbrev pub lag_energy : ℕ → List Float → ℕ → Float
lag_energy n xs i = mul binary64 (add binary32 (squared_size binary32 (pair_at xs i)) (squared_size binary32 (pair_at xs (i + n)))) half

-- ---- the prefix sums of a mode
unfoldable pub real_prefixes : ℕ → List Float → List Float
real_prefixes n xs = prefixes binary64 (plus_zero binary64) (up_to (λ i. (lag_product n xs i).re) (lags_in n xs))

unfoldable pub imaginary_prefixes : ℕ → List Float → List Float
imaginary_prefixes n xs = prefixes binary64 (plus_zero binary64) (up_to (λ i. (lag_product n xs i).im) (lags_in n xs))

unfoldable pub energy_prefixes : ℕ → List Float → List Float
energy_prefixes n xs = prefixes binary64 (plus_zero binary64) (up_to (lag_energy n xs) (lags_in n xs))

-- ---- an offset d: its guards start a symbol p apart, and only those count that end within the len lags
unfoldable pub starts : ℕ → ℕ → ℕ → ℕ → List ℕ
starts p ng len d = select (λ a. nat_le (a + ng) len) (up_to (λ s. d + s * p) ((len - ng) / p))

-- the sum over the guards, from prefix sums
unfoldable pub window_sum : List Float → ℕ → List ℕ → Float
window_sum sums ng from = total binary64 (plus_zero binary64) (map (λ a. sub binary64 (slice_index_or sums (a + ng) nan) (slice_index_or sums a nan)) from)
