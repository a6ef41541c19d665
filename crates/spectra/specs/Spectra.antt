-- Spectra lie one behind another in a lent list of floats, real and imaginary part in turn (document 01). This file alone knows that:
-- everything above speaks of a bin's pairs in symbol order, or of a spectrum's pairs by bin.
-- Definitions only.
use Rattle.std.specs.Prelude.{ℕ, zero, suc, ◌+◌, ◌*◌, ◌/◌, ◌%◌, Bool, ◌&&◌, List, [], ◌∷◌, eqb, leb, ltb, get_or, set, length, Float}
use Rattle.std.specs.Float.{nan}
use Rattle.lists.specs.Refusals.{unless}
use Rattle.complex.specs.Complex.{Pair, pair}

-- pair k of a flat list
abbrev pub pair_at : List Float → ℕ → Pair
pair_at xs k = pair (get_or xs (2 * k) nan) (get_or xs (2 * k + 1) nan)

-- pairs, laid flat
unfoldable pub flat : List Pair → List Float
flat [] = []
flat (p ∷ ps) = p.re ∷ p.im ∷ flat ps

-- a flat list with v for its pair k
abbrev pub with_pair : List Float → ℕ → Pair → List Float
with_pair xs k v = set (set xs (2 * k) v.re) (2 * k + 1) v.im

-- n pairs from k on, len apart
unfoldable pub column : List Float → ℕ → ℕ → ℕ → List Pair
column xs len k zero = []
column xs len k (suc n) = pair_at xs k ∷ column xs len (k + len) n

-- how many spectra of len pairs n floats are
abbrev pub spectra_in : ℕ → ℕ → ℕ
spectra_in len n = n / (2 * len)

-- the pairs of bin b, in symbol order
abbrev pub bin_pairs : ℕ → List Float → ℕ → List Pair
bin_pairs len xs b = column xs len b (spectra_in len (length xs))

-- n floats are whole spectra of len pairs, at most 1,024 of them
abbrev pub are_spectra : ℕ → ℕ → Bool
are_spectra len n = eqb (n % (2 * len)) 0 && leb (spectra_in len n) 1024

-- what refuses n floats as spectra of len pairs, with later tests behind: 5 unless whole spectra, at most 1,024; 6 if none
abbrev pub spectra_code : ℕ → ℕ → ℕ → ℕ
spectra_code len n later = unless (are_spectra len n) 5 (unless (ltb 0 n) 6 later)
