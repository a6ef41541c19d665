-- The words of the contracts inside this crate.
-- Definitions only.
use Rattle.std.specs.Prelude.{ℕ, ◌+◌, ◌*◌, ◌%◌, ◌<◌, ◌≤◌, List, map, ◌≡◌, get_or, length, Float}
use Rattle.std.specs.Float.{nan, binary32}
use Rattle.std.specs.Float.Ieee.{minus}
use Rattle.std.proofs.lemmas.List.Edits.{sets}
use Rattle.ieee.specs.Constants.{minus_zero}
use Rattle.ieee.specs.Sums.{total}
use Rattle.lists.specs.Lists.{Inside}
use Rattle.params.specs.declared.Mode.{Mode}
use Rattle.params.specs.declared.SegmentKind.TheVariants.{Coherent}
use Rattle.params.specs.Params.{carriers_per_segment}
use Rattle.tables.specs.Places.{ac1_of}
use Rattle.ofdm.specs.Band.{place_of, bin_of}
use Rattle.shift.specs.declared.Best.{Best}
use Rattle.shift.specs.Shift.{winner, best_shift}

-- ---- the pattern: bins of a segment's AC1 carriers
unfoldable pub segment_bins : Mode → ℕ → List ℕ
segment_bins mode seg = map (λ p. bin_of mode (place_of seg * carriers_per_segment mode + p)) (ac1_of mode Coherent seg)

-- a segment of the band, with room for its carriers, at most eight
pub record Room (seg : ℕ) (out : List ℕ) (at : ℕ) : Type 0 where
  pub segment : seg < 13
  pub fits : at + 8 ≤ length out

-- xs stored from index `at` on; r is the index behind
pub record Put (xs out : List ℕ) (at r : ℕ) (out' : List ℕ) : Type 0 where
  pub next : r ≡ at + length xs
  pub stored : out' ≡ sets out at xs

-- ---- a shift's sum: every bin moved up, modulo n
unfoldable pub sum_up : List ℕ → List Float → ℕ → Float
sum_up bins ratios up = total binary32 minus_zero (map (λ b. get_or ratios ((b + up) % length ratios) nan) bins)

-- bins among n, and a move below n, so that a bin comes round once at the most; what is added up fits
pub record Movable (bins : List ℕ) (n up : ℕ) : Type 0 where
  pub inside : Inside bins n
  pub once : up < n
  pub few : n ≤ 8192

-- ---- the search over n ratios
pub record Bounded (bins : List ℕ) (n bound : ℕ) : Type 0 where
  pub inside : Inside bins n
  pub some : 0 < n
  pub few : n ≤ 8192
  pub within : bound ≤ n

-- r is the winner, its shift counted from -bound
pub record BestFound (bins : List ℕ) (ratios : List Float) (bound : ℕ) (r : Best) : Type 0 where
  pub inside : r.at ≤ 2 * bound
  pub wins : winner (minus r.at bound) r.sum ≡ best_shift (length ratios) bins bound ratios
