-- What the tests on the way to a return make of the definition of `detect_kinds`.
-- Assumes nothing.
use Rattle.std.proofs.Common.{Option, Some, None, Ok, Err}
use Prim.Native.Nat.{ℕ}
use mathlib.Core.Bool.{true}
use mathlib.Core.List.{List}
use mathlib.Core.Path.{◌≡◌, refl, sym, ap, ◌∙◌}
use borrow.Author.Tests.{eq-eqb}
use lib.Dec.{eqb}
use lib.ListN.{length}
use lib.Ieee.{Float}
use Rattle.params.specs.declared.Mode.{Mode}
use Rattle.params.specs.declared.Refusal.{Refusal}
use Rattle.params.specs.declared.Refusal.TheVariants.{BadMode}
use Rattle.params.specs.Params.{total_carriers, refusal_number}
use Rattle.ratio.specs.Ratio.{bin_ratios, metric_code, metric_leaves, MetricTaken}
use Rattle.ratio.specs.Codes.{left_written}
use Rattle.segment_kinds.specs.declared.DetectedKinds.{DetectedKinds}
use Rattle.segment_kinds.specs.SegmentKinds.{kinds_code, kinds_leaves, kinds_answer, scores_answer}
use Rattle.segment_kinds.specs.SegmentKinds.{detected_kinds, kind_scores, AllDetected, KindsDetected}

-- ---- the returns
pub bad_mode : (number : Option Mode) (xs old : List Float) → number ≡ None → KindsDetected number xs old (Err BadMode) old
unfolding kinds_code kinds_leaves
bad_mode number xs old e = rw e (record { code = refl; found = tt; leaves = refl })

-- a known mode, and what `continual_metric` left of its k ratios
module _ (number : Option Mode) (m : Mode) (known : number ≡ Some m) (xs old now : List Float) (k n : ℕ) (sizes : k ≡ total_carriers m)
    (taken : MetricTaken k xs old n now) where
  abbrev code : ℕ
  code = kinds_code (Some m) (length xs) (length old)

  code_is : n ≡ code
  unfolding kinds_code
  code_is = taken.code ∙ ap (λ (z : ℕ). metric_code z (length xs) (length old) 0) sizes

  leaves_is : now ≡ kinds_leaves (Some m) xs old
  unfolding kinds_leaves
  leaves_is = taken.leaves ∙ ap (λ (z : ℕ). metric_leaves z xs old) sizes

  pub refused : (refusal : Refusal) → refusal_number refusal ≡ n → KindsDetected number xs old (Err refusal) now
  refused refusal e = rw known (record { code = e ∙ code_is; found = tt; leaves = leaves_is })

  written : n ≡ 0 → now ≡ bin_ratios (total_carriers m) xs
  written z = left_written k xs old now n taken z ∙ ap (λ (c : ℕ). bin_ratios c xs) sizes

  pub answered : (found : DetectedKinds) → n ≡ 0 → AllDetected (detected_kinds m now) (kind_scores m now) found → KindsDetected number xs old (Ok found) now
  unfolding kinds_answer scores_answer
  answered found z a =
      let accepted : eqb code 0 ≡ true = eq-eqb code 0 (sym code_is ∙ z) in
      rw known
      (record {
        code = sym z ∙ code_is;
        found = record { kinds = rw (accepted, ← written z) a.kinds; scores = rw (accepted, ← written z) a.scores };
        leaves = leaves_is;
      })
