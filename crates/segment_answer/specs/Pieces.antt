-- The line of a segment in the pieces in which it is stored.
-- Definitions only.
use Rattle.std.specs.Prelude.{ℕ, List, [], ◌∷◌, ◌++◌}
use Rattle.params.specs.declared.Mode.{Mode}
use Rattle.params.specs.Params.{kind_codes}
use Rattle.role_counts.specs.declared.KindCounts.{KindCounts}
use Rattle.text.specs.Decimal.{decimal, field}
use Rattle.question.specs.declared.Question.{Question}
use Rattle.question.specs.Question.{phase_asked, kinds_asked}
use Rattle.segment_answer.specs.Answer.{segment_line}

-- the line of the segment at a place, for a line of the input
abbrev pub line_at : Mode → List ℕ → ℕ → List ℕ
line_at mode s place = segment_line mode (phase_asked s) (kinds_asked s) place

-- the same for the question that it asks
abbrev pub line_of : Question → ℕ → List ℕ
line_of question place = segment_line question.mode question.phase.number (kind_codes question.kinds) place

-- a segment's line up to its counts
abbrev pub line_head : ℕ → ℕ → ℕ → ℕ → List ℕ
line_head place seg letter carrier = field place ++ (field seg ++ (letter ∷ 44 ∷ field carrier))

-- three numbers: commas between them, and a byte behind the last
abbrev pub three : ℕ → ℕ → ℕ → ℕ → List ℕ
three a b c behind = field a ++ (field b ++ (decimal c ++ (behind ∷ [])))

-- the text of the counts, and the line's end
abbrev pub counts_line : KindCounts → List ℕ
counts_line k = three k.«data» k.sp k.cp 44 ++ three k.tmcc k.ac1 k.ac2 10
