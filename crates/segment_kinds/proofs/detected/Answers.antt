-- `segment_kinds::detected` meets its contract: the scores are those of the segments in order, and the kinds are theirs.
-- Assumes nothing.
use Rattle.std.proofs.Common.{rules}
use mathlib.Core.List.{map}
use mathlib.Core.Path.{◌≡◌, refl, ap, ◌∙◌}
use lib.ListN.{length}
use lib.Ieee.{nan}
use Rattle.lists.specs.Lists.{up_to}
use Rattle.params.specs.declared.SegmentKind.TheVariants.{Coherent}
use Rattle.params.specs.Params.{kind_code, kind_codes}
use Rattle.segment_kinds.specs.SegmentKinds.{kind_of_score, kind_score, kind_scores, detected_kinds}
use Rattle.segment_kinds.proofs.Filled.{filled, mapped}
use Rattle.segment_kinds.proofs.detected.Goals as goal

pub returns : goal.returns
unfolding kind_scores detected_kinds kind_codes
returns c =
    let score = kind_score c.args.mode c.args.ratios.now in
    let scores : c.from_fn-scores.result ≡ up_to score 13 = filled score 13 (λ i y q l k. search rules) _ c.from_fn-scores.ensures.items in
    let long : length c.from_fn-scores.result ≡ 13 = rw scores refl in
    record {
      kinds = mapped kind_code kind_of_score nan Coherent (λ p q x y k. search rules) long c.map-kinds.ensures.items ∙ ap (map kind_of_score) scores;
      scores = scores;
    }
