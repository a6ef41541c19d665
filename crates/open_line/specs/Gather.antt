-- A line of any length held in bounded memory: its first 17 bytes, and how many it has, where 18 stands for more. What such a line gives
-- is decided by its two fields, whatever they hold.
-- Definitions only.
use Rattle.std.specs.Prelude.{ℕ, ◌+◌, min, cond, List, [], ◌∷◌, ◌++◌, ◌≡◌, eqb, ltb, length, take, set, replicate}
use Rattle.open_line.specs.declared.Line.{Line}
use Rattle.segment_answer.specs.Answer.{refused_line, line_answer}

-- the line holds what it can of s
pub record Gathers (line : Line) (s : List ℕ) : Type 0 where
  pub size : length line.bytes ≡ 17
  pub count : min 18 line.len ≡ min 18 (length s)
  pub held : take line.len line.bytes ≡ take 17 s

-- a line of no bytes
abbrev pub new_line : Line
new_line = record { bytes = replicate 17 0; len = 0 }

-- the line with a byte more: the first 17 are kept, and any others only counted
abbrev pub pushed : Line → ℕ → Line
pushed line b =
    cond (ltb line.len 17) (record { bytes = set line.bytes line.len b; len = line.len + 1 }) (record { bytes = line.bytes; len = 18 })

-- a text that the line holds: a byte stands for all those that are only counted
abbrev pub held_text : Line → List ℕ
held_text line = take line.len (line.bytes ++ (0 ∷ []))

-- the answer to the line: 17 bytes are held whole, and no line of another length is a question
unfoldable pub held_answer : Line → List ℕ
held_answer line = cond (eqb line.len 17) (line_answer line.bytes) (refused_line 11)

-- the answer where the input ends: a line of no bytes is no line
unfoldable pub held_last : Line → List ℕ
held_last line = cond (eqb line.len 0) [] (held_answer line)
