-- The kinds of the thirteen segments (acquire.rs, `detect_kinds`; document 01, "Ratios, shift and kinds"): a segment is differential where
-- the carriers that are continual in a differential segment only have a mean ratio above 0.5.
-- Definitions only.
use Rattle.std.specs.Prelude.{ℕ, ◌+◌, ◌*◌, Bool, not, cond, List, ◌∷◌, ◌++◌, map, ◌≡◌, eqb, pos, get_or, length, Float, Option, Some, None, Result, IfOk}
use Rattle.std.specs.Float.{nan, binary32}
use Rattle.std.specs.Float.Ieee.{lt, div, of_int}
use Rattle.ieee.specs.Constants.{plus_zero, minus_zero, half32}
use Rattle.ieee.specs.Sums.{total}
use Rattle.lists.specs.Lists.{up_to, select}
use Rattle.lists.specs.Tests.{memb}
use Rattle.params.specs.declared.Mode.{Mode}
use Rattle.params.specs.declared.SegmentKind.TheVariants.{Coherent, Differential}
use Rattle.params.specs.declared.Refusal.{Refusal}
use Rattle.params.specs.Params.{carriers_per_segment, total_carriers, kind_codes, code_of}
use Rattle.tables.specs.Places.{tmcc_of, ac1_of, ac2_of}
use Rattle.ofdm.specs.Band.{place_of}
use Rattle.ratio.specs.Ratio.{bin_ratios, metric_code, metric_leaves}
use Rattle.segment_kinds.specs.declared.DetectedKinds.{DetectedKinds}

-- ---- a segment's score
-- a place that is not continual in a coherent segment too
abbrev pub telling : Mode → ℕ → ℕ → Bool
telling mode seg p = not (memb p (tmcc_of mode Coherent seg ++ ac1_of mode Coherent seg))

-- place 0, AC2, differential TMCC, in this order
unfoldable pub kind_places : Mode → ℕ → List ℕ
kind_places mode seg = select (telling mode seg) (0 ∷ (ac2_of mode Differential seg ++ tmcc_of mode Differential seg))

-- the ratio of the carrier at place p of segment seg
abbrev pub ratio_at_place : Mode → List Float → ℕ → ℕ → Float
ratio_at_place mode ratios seg p = get_or ratios (place_of seg * carriers_per_segment mode + p) nan

unfoldable pub kind_score : Mode → List Float → ℕ → Float
kind_score mode ratios seg =
    div binary32 (total binary32 minus_zero (map (ratio_at_place mode ratios seg) (kind_places mode seg)))
    (of_int binary32 (pos (length (kind_places mode seg))))

-- 1, differential, above 0.5; exactly 0.5 or NaN is 0, coherent
abbrev pub kind_of_score : Float → ℕ
kind_of_score s = cond (lt half32 s) 1 0

-- ---- all thirteen, in segment-number order
unfoldable pub kind_scores : Mode → List Float → List Float
kind_scores mode ratios = up_to (kind_score mode ratios) 13

unfoldable pub detected_kinds : Mode → List Float → List ℕ
detected_kinds mode ratios = map kind_of_score (kind_scores mode ratios)

-- ---- the operation: 1; 5 unless whole spectra, at most 1,024; 6 if none; 7 unless k_total ratios
unfoldable pub kinds_code : Option Mode → ℕ → ℕ → ℕ
kinds_code None floats room = 1
kinds_code (Some m) floats room = metric_code (total_carriers m) floats room 0

-- the lent ratios at exit
unfoldable pub kinds_leaves : Option Mode → List Float → List Float → List Float
kinds_leaves None xs old = old
kinds_leaves (Some m) xs old = metric_leaves (total_carriers m) xs old

-- where the call is refused, kinds and scores are zeros
unfoldable pub kinds_answer : Option Mode → List Float → ℕ → List ℕ
kinds_answer None xs room = up_to (λ seg. 0) 13
kinds_answer (Some m) xs room = cond (eqb (kinds_code (Some m) (length xs) room) 0) (detected_kinds m (bin_ratios (total_carriers m) xs))
    (up_to (λ seg. 0) 13)

unfoldable pub scores_answer : Option Mode → List Float → ℕ → List Float
scores_answer None xs room = up_to (λ seg. plus_zero binary32) 13
scores_answer (Some m) xs room =
    cond (eqb (kinds_code (Some m) (length xs) room) 0) (kind_scores m (bin_ratios (total_carriers m) xs)) (up_to (λ seg. plus_zero binary32) 13)

pub record AllDetected (ks : List ℕ) (ss : List Float) (found : DetectedKinds) : Type 0 where
  pub kinds : kind_codes found.kinds ≡ ks
  pub scores : found.scores ≡ ss

pub record KindsDetected (mode : Option Mode) (xs old : List Float) (r : Result DetectedKinds Refusal) (now : List Float) : Type 0 where
  pub code : code_of r ≡ kinds_code mode (length xs) (length old)
  pub found : IfOk r (AllDetected (kinds_answer mode xs (length old)) (scores_answer mode xs (length old)))
  pub leaves : now ≡ kinds_leaves mode xs old
