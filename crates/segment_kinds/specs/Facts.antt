-- The kinds read 9, 18 and 36 bins of every segment in modes 1, 2 and 3: antt computes it over all segments. A score of exactly 0.5 is coherent,
-- and so is a NaN. Each ratio that an accepted call leaves is what `bin_ratio` answers for its bin (`kinds_each`).
-- Assumes nothing.
use Rattle.std.specs.Prelude.{ℕ, ◌<◌, ◌≡◌, refl, List, length, Float, Some, Result}
use Rattle.std.specs.Float.{nan}
use Rattle.std.specs.Float.Ieee.{lt, of_bits}
use Rattle.ieee.specs.Constants.{half32}
use Rattle.ieee.specs.Order.{lt_nan}
use Rattle.lists.specs.Tests.{values, agree}
use Rattle.params.specs.declared.Mode.{Mode}
use Rattle.params.specs.declared.Mode.TheVariants.{M1, M2, M3}
use Rattle.params.specs.declared.Refusal.{Refusal}
use Rattle.params.specs.Params.{total_carriers, code_of}
use Rattle.ratio.specs.EachBin.{EachBin, metric_each}
use Rattle.segment_kinds.specs.declared.DetectedKinds.{DetectedKinds}
use Rattle.segment_kinds.specs.SegmentKinds.{kind_places, kind_of_score, kinds_code, kinds_leaves, KindsDetected}

abbrev pub places_read : Mode → ℕ
places_read M1 = 9
places_read M2 = 18
places_read M3 = 36

tested : (mode : Mode) → values (λ seg. length (kind_places mode seg)) 13 ≡ values (λ seg. places_read mode) 13
unfolding kind_places
tested M1 = refl
tested M2 = refl
tested M3 = refl

pub places_read_lem : (mode : Mode) (seg : ℕ) → seg < 13 → length (kind_places mode seg) ≡ places_read mode
places_read_lem mode = agree (λ seg. length (kind_places mode seg)) (λ seg. places_read mode) 13 (tested mode)

pub half_coherent : kind_of_score half32 ≡ 0
unfolding lt of_bits
half_coherent = refl

pub nan_coherent : kind_of_score nan ≡ 0
nan_coherent = rw (lt_nan half32)

-- each ratio that an accepted call leaves is what `bin_ratio` answers for that bin's pairs laid one behind another
pub kinds_each : (m : Mode) (xs old : List Float) (r : Result DetectedKinds Refusal) (now : List Float) → KindsDetected (Some m) xs old r now → code_of r ≡ 0
    → EachBin (total_carriers m) xs now
unfolding kinds_code kinds_leaves
kinds_each m xs old r now h z = metric_each (total_carriers m) xs old now (code_of r) (record { code = h.code; leaves = h.leaves }) z
