-- The sample of document 01: what `segments` prints for the question 1,0,CCCCCCCCCCCCC, whether or not its line feed follows.
-- Assumes nothing.
use Rattle.std.specs.Prelude.{ℕ, List, [], ◌∷◌, ◌++◌, ◌≡◌, refl}
use Prim.Native.String.{String}
use Rattle.std.proofs.Common.{sym, ◌∙◌, arith}
use Rattle.frame.specs.Roles.{segment_roles, place_role}
use Rattle.lists.specs.Lists.{joined}
use Rattle.text.specs.Ascii.{ascii}
use Rattle.text.specs.Decimal.{decimal}
use Rattle.question.specs.Question.{is_question, line_code}
use Rattle.segment_answer.specs.Answer.{segment_line, edge_line, refused_line, list_lines, line_answer, last_answer}
use Rattle.segment_list.specs.Prints.{printed, open_after, segments_prints}
use Rattle.segment_list.specs.Printed.{feed_optional}

-- lines, each with its line feed
abbrev pub lines : List String → List ℕ
lines texts = joined (λ (text : String). ascii text ++ (10 ∷ [])) texts

abbrev pub sample : List ℕ
sample =
    lines
    ("0,11,C,0,96,9,0,1,2,0"
    ∷ "1,9,C,108,96,9,0,1,2,0"
    ∷ "2,7,C,216,96,9,0,1,2,0"
    ∷ "3,5,C,324,96,9,0,1,2,0"
    ∷ "4,3,C,432,96,9,0,1,2,0"
    ∷ "5,1,C,540,96,9,0,1,2,0"
    ∷ "6,0,C,648,96,9,0,1,2,0"
    ∷ "7,2,C,756,96,9,0,1,2,0"
    ∷ "8,4,C,864,96,9,0,1,2,0"
    ∷ "9,6,C,972,96,9,0,1,2,0"
    ∷ "10,8,C,1080,96,9,0,1,2,0"
    ∷ "11,10,C,1188,96,9,0,1,2,0"
    ∷ "12,12,C,1296,96,9,0,1,2,0"
    ∷ "13,E,E,1404,0,0,0,0,0,0"
    ∷ [])

pub sample_fed : segments_prints (ascii "1,0,CCCCCCCCCCCCC\n") ≡ sample
unfolding segments_prints printed open_after last_answer line_answer line_code is_question list_lines segment_line edge_line refused_line segment_roles place_role decimal
sample_fed = refl

pub sample_unfed : segments_prints (ascii "1,0,CCCCCCCCCCCCC") ≡ sample
unfolding open_after
sample_unfed = sym (feed_optional (ascii "1,0,CCCCCCCCCCCCC") (λ e. omega arith)) ∙ sample_fed

-- the refusals: a line of another form, a mode and a phase that are none, and of two the first
pub sample_refused :
    segments_prints (ascii "\n1,0,CCCCCCCCCCCCC \n4,0,CCCCCCCCCCCCC\n1,4,CCCCCCCCCCCCC\n0,9,DDDDDDDDDDDDD")
    ≡ lines ("refused,11" ∷ "refused,11" ∷ "refused,1" ∷ "refused,3" ∷ "refused,1" ∷ [])
unfolding segments_prints printed open_after last_answer line_answer line_code is_question list_lines segment_line edge_line refused_line segment_roles place_role decimal
sample_refused = refl
