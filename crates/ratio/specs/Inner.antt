-- The words of the contracts inside this crate.
-- Definitions only.
use Rattle.std.specs.Prelude.{List, ◌≡◌, ℕ, ◌+◌, ◌*◌, ◌<◌, ◌≤◌, Float, get_or}
use Rattle.std.specs.Float.{nan, binary32}
use Rattle.std.specs.Float.Ieee.{add}
use Rattle.lists.specs.Lists.{up_to}
use Rattle.ieee.specs.Constants.{plus_zero}
use Rattle.ieee.specs.Sums.{total}
use Rattle.complex.specs.Complex.{Pair, pair, of32, product, conjugate, plus}
use Rattle.complex.specs.Totals.{totals}
use Rattle.spectra.specs.Spectra.{pair_at}
use Rattle.ratio.specs.declared.BinBlock.{BinBlock}
use Rattle.ratio.specs.declared.BinSums.{BinSums}
use Rattle.ratio.specs.Ratio.{square_of, size_of, correlation, energy}

-- ---- the sums
-- no symbol yet
pub record Started (r : BinSums) : Type 0 where
  pub num : of32 r.num ≡ pair (plus_zero binary32) (plus_zero binary32)
  pub den : r.den ≡ plus_zero binary32

-- a symbol more: its value x, and y of the symbol before
pub record Stepped (s : BinSums) (x y : Pair) (r : BinSums) : Type 0 where
  pub num : of32 r.num ≡ plus binary32 (of32 s.num) (square_of (product binary32 x (conjugate y)))
  pub den : r.den ≡ add binary32 s.den (size_of (product binary32 x (conjugate y)))

-- the product of pair k + 1 and the conjugate of pair k
abbrev pub step_at : List Float → ℕ → Pair
step_at xs k = product binary32 (pair_at xs (k + 1)) (conjugate (pair_at xs k))

-- the squares and the squared sizes of the first n products stand first in two lists
pub record TermsPut (xs : List Float) (n : ℕ) (squares sizes : List Float) : Type 0 where
  pub squared : (i : ℕ) → i < n → pair_at squares i ≡ square_of (step_at xs i)
  pub sized : (i : ℕ) → i < n → get_or sizes i nan ≡ size_of (step_at xs i)

-- n squares and squared sizes more
pub record TermsAdded (s : BinSums) (squares sizes : List Float) (n : ℕ) (r : BinSums) : Type 0 where
  pub num : of32 r.num ≡ totals binary32 (of32 s.num) (up_to (pair_at squares) n)
  pub den : r.den ≡ total binary32 s.den (up_to (λ i. get_or sizes i nan) n)

-- the sums of the first n products
pub record SummedTo (xs : List Float) (n : ℕ) (r : BinSums) : Type 0 where
  pub num : of32 r.num ≡ totals binary32 (pair (plus_zero binary32) (plus_zero binary32)) (up_to (λ k. square_of (step_at xs k)) n)
  pub den : r.den ≡ total binary32 (plus_zero binary32) (up_to (λ k. size_of (step_at xs k)) n)

-- the sums of a bin's pairs
pub record Summed (xs : List Pair) (r : BinSums) : Type 0 where
  pub num : of32 r.num ≡ correlation xs
  pub den : r.den ≡ energy xs

-- ---- the copy
-- `width` pairs from `at` and from `next` on are among n floats, and m floats have room for as many slots, with the pairs t and t + 1 in each
pub record Spreadable (at next width slot t n m : ℕ) : Type 0 where
  pub one : 2 * (at + width) ≤ n
  pub two : 2 * (next + width) ≤ n
  pub inside : t + 1 < slot
  pub room : 2 * (width * slot) ≤ m

-- old with those pairs for the pairs t and t + 1 of its slots is new; what stands before them in a slot stays
pub record Spread (xs : List Float) (at next width slot t : ℕ) (old new : List Float) : Type 0 where
  pub one : (i : ℕ) → i < width → pair_at new (i * slot + t) ≡ pair_at xs (at + i)
  pub two : (i : ℕ) → i < width → pair_at new (i * slot + (t + 1)) ≡ pair_at xs (next + i)
  pub before : (i u : ℕ) → u < t → pair_at new (i * slot + u) ≡ pair_at old (i * slot + u)

-- the bins are among those of count spectra of len pairs in n floats, and m floats have room for their slots
pub record Gatherable (len : ℕ) (bins : BinBlock) (n m : ℕ) : Type 0 where
  pub inside : bins.first + bins.width ≤ len
  pub spectra : 2 * (len * bins.count) ≤ n
  pub spare : bins.count + 1 < bins.slot
  pub room : 2 * (bins.width * bins.slot) ≤ m

-- each slot has its bin's pairs of the first n spectra, one behind another
pub record Gathered (xs : List Float) (len : ℕ) (bins : BinBlock) (n : ℕ) (block : List Float) : Type 0 where
  pub pairs : (i t : ℕ) → i < bins.width → t < n → pair_at block (i * bins.slot + t) ≡ pair_at xs (t * len + (bins.first + i))

-- m floats have slot i, of 1 to 1,024 pairs
pub record InBlock (bins : BinBlock) (i m : ℕ) : Type 0 where
  pub some : 0 < bins.count
  pub few : bins.count ≤ 1024
  pub room : 2 * (i * bins.slot + bins.count) ≤ m

-- all slots are among m floats, and n ratios have room for their bins
pub record Writable (bins : BinBlock) (m n : ℕ) : Type 0 where
  pub some : 0 < bins.count
  pub few : bins.count ≤ 1024
  pub spare : bins.count ≤ bins.slot
  pub room : 2 * (bins.width * bins.slot) ≤ m
  pub inside : bins.first + bins.width ≤ n
