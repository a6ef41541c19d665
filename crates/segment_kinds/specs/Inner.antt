-- The words of the contracts inside this crate.
-- Definitions only.
use Rattle.std.specs.Prelude.{ℕ, ◌+◌, ◌*◌, ◌≤◌, ◌<◌, Bool, not, List, ◌++◌, map, ◌≡◌, pos, get_or, length, Float}
use Rattle.std.specs.Float.{nan, binary32}
use Rattle.std.specs.Float.Ieee.{div, of_int}
use Rattle.ieee.specs.Constants.{minus_zero}
use Rattle.ieee.specs.Sums.{total}
use Rattle.lists.specs.Lists.{select, Inside}
use Rattle.lists.specs.Tests.{memb}
use Rattle.params.specs.declared.Mode.{Mode}
use Rattle.params.specs.Params.{carriers_per_segment, total_carriers}

-- in neither list of coherent places: `telling` of a segment, by its rows
abbrev pub is_telling : List ℕ → List ℕ → ℕ → Bool
is_telling tmcc ac1 p = not (memb p (tmcc ++ ac1))

-- those of the places that tell
abbrev pub kept : List ℕ → List ℕ → List ℕ → List ℕ
kept tmcc ac1 places = select (is_telling tmcc ac1) places

-- the ratio of the carrier at place p of the segment at a place of the band
abbrev pub ratio_at : Mode → ℕ → List Float → ℕ → Float
ratio_at mode place ratios p = get_or ratios (place * carriers_per_segment mode + p) nan

-- a segment, by its number, of a band with n ratios
pub record Banded (mode : Mode) (seg n : ℕ) : Type 0 where
  pub segment : seg < 13
  pub band : n ≡ total_carriers mode

-- the mean of what f reads at the places
unfoldable pub mean_of : (ℕ → Float) → List ℕ → Float
mean_of f places = div binary32 (total binary32 minus_zero (map f places)) (of_int binary32 (pos (length places)))

-- rows of a segment
pub record Scorable (mode : Mode) (ac2 differential : List ℕ) : Type 0 where
  pub ac2_short : length ac2 ≤ 20
  pub ac2_inside : Inside ac2 (carriers_per_segment mode)
  pub tmcc_short : length differential ≤ 20
  pub tmcc_inside : Inside differential (carriers_per_segment mode)
