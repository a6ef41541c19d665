-- What the program `segments` prints for the lines of an input, as bytes.
-- Definitions only.
use Rattle.std.specs.Prelude.{ℕ, cond, List, [], ◌∷◌, ◌++◌, eqb}
use Rattle.segment_answer.specs.Answer.{line_answer, last_answer}

-- what is printed for the lines that end in the input, after the bytes s of a line that is open; and the line that is open then
unfoldable pub printed : List ℕ → List ℕ → List ℕ
printed s [] = []
printed s (b ∷ bs) = cond (eqb b 10) (line_answer s ++ printed [] bs) (printed (s ++ (b ∷ [])) bs)

unfoldable pub open_after : List ℕ → List ℕ → List ℕ
open_after s [] = s
open_after s (b ∷ bs) = cond (eqb b 10) (open_after [] bs) (open_after (s ++ (b ∷ [])) bs)

-- what `segments` prints for its whole input
unfoldable pub segments_prints : List ℕ → List ℕ
segments_prints input = printed [] input ++ last_answer (open_after [] input)

-- what a program prints that reads its input in turns: for each turn what its bytes print after the line that is open, at the end the last line
unfoldable pub turns_print : List ℕ → List (List ℕ) → List ℕ
turns_print s [] = last_answer s
turns_print s (bytes ∷ turns) = printed s bytes ++ turns_print (open_after s bytes) turns
