-- Lines that are stored piece by piece and one behind another.
-- Assumes nothing.
use Prim.Native.Nat.{ℕ, ◌+◌, ◌*◌, ◌<◌}
use mathlib.Core.List.{List, ◌++◌}
use mathlib.Core.Path.{◌≡◌, refl, sym, ◌∙◌}
use native.Mathlib.Nat.{add-zero}
use native.Mathlib.Numerals.{add-one}
use Rattle.std.proofs.Common.{Some}
use lib.ListN.{get_or}
use Rattle.std.proofs.Math.ListN.{get_or-map}
use Rattle.lists.specs.Lists.{joined, range}
use Rattle.lists.specs.Fill.{joined_range}
use Rattle.params.specs.declared.SegmentKind.{SegmentKind}
use Rattle.params.specs.declared.SegmentKind.TheVariants.{Coherent}
use Rattle.params.specs.Params.{carriers_per_segment, kind_code, kind_codes}
use Rattle.ofdm.specs.Band.{segment_at}
use Rattle.role_counts.specs.Counts.{kind_counts}
use Rattle.frame.specs.Answers.{kind_again}
use Rattle.question.specs.declared.Question.{Question}
use Rattle.question.specs.Question.{line_code}
use Rattle.question.specs.Asked.{Asked}
use Rattle.segment_answer.specs.Pieces.{line_of, line_head, counts_line}
use Rattle.segment_answer.specs.Answer.{edge_line, list_lines, line_answer}
use Rattle.segment_answer.specs.Laws.{segment_line_parts, list_answer}
use Rattle.text.specs.Put.{Put}
use Rattle.text.specs.Laws.{then, put_as}

pub joined_next : (f : ℕ → List ℕ) (n : ℕ) → joined f (range (n + 1)) ≡ joined f (range n) ++ f n
joined_next f n = rw add-one (joined_range f n)

-- a kind's code, and back
code_from : (kinds : List SegmentKind) (k : ℕ) → kind_code (get_or kinds k Coherent) ≡ get_or (kind_codes kinds) k 0
unfolding kind_codes
code_from kinds k = sym (get_or-map kind_code kinds k Coherent)

-- the head and the counts make the line of a segment
pub segment_put : {out mid end : List ℕ} {at a r : ℕ} (question : Question) (place seg letter carrier : ℕ) (kind : SegmentKind)
    → place < 13 → seg ≡ segment_at place → carrier ≡ place * carriers_per_segment question.mode + 0
    → kind ≡ get_or question.kinds seg Coherent → letter ≡ 67 + kind_code kind
    → Put out at (line_head place seg letter carrier) a mid → Put mid a (counts_line (kind_counts question.mode kind)) r end
    → Put out at (line_of question place) r end
segment_put question place seg letter carrier kind h es ec ek el p t =
    let k = segment_at place in
    put_as (segment_line_parts question.mode question.phase.number (kind_codes question.kinds) place question.phase.in_cycle h
    ∙ rw (el, ek, es, ec, add-zero, code_from question.kinds k, kind_again question.kinds k)) (then p t)

-- the lines of a question that a line asks
pub question_lines : (s : List ℕ) (question : Question) → 0 ≡ line_code s → Asked s question
    → line_answer s ≡ joined (line_of question) (range 13) ++ edge_line question.mode
unfolding list_lines
question_lines s question e a = list_answer s 0 (Some question.mode) e refl a.mode ∙ rw (a.phase, a.kinds)
