-- A question: a line of the form `mode,phase,kinds`, what it asks, and what refuses it, as bytes.
-- Definitions only.
use Rattle.params.specs.declared.Mode.{Mode}
use Rattle.std.specs.Prelude.{ℕ, ◌-◌, ◌<◌, Bool, true, ◌&&◌, ◌||◌, List, map, ◌≡◌, eqb, leb, ltb, length, get_or, drop, Option}
use Rattle.lists.specs.Refusals.{unless}
use Rattle.lists.specs.Tests.{all_in}
use Rattle.params.specs.Params.{mode_from}

-- bytes: comma 44, digits from 48, C 67, D 68, E 69, line feed 10
abbrev pub is_digit : ℕ → Bool
is_digit b = leb 48 b && leb b 57

abbrev pub is_kind_letter : ℕ → Bool
is_kind_letter b = eqb b 67 || eqb b 68

-- a digit, a comma, a digit, a comma, thirteen letters C or D: 17 bytes
unfoldable pub is_question : List ℕ → Bool
is_question s =
    eqb (length s) 17 && (is_digit (get_or s 0 0) && (eqb (get_or s 1 0) 44 &&
    (is_digit (get_or s 2 0) && (eqb (get_or s 3 0) 44 && all_in is_kind_letter (drop 4 s)))))

-- the mode, the phase and the kinds, in segment-number order, that a question asks
abbrev pub mode_asked : List ℕ → Option Mode
mode_asked s = mode_from (get_or s 0 0 - 48)

abbrev pub phase_asked : List ℕ → ℕ
phase_asked s = get_or s 2 0 - 48

abbrev pub kinds_asked : List ℕ → List ℕ
kinds_asked s = map (λ b. b - 67) (drop 4 s)

-- what refuses a line, or 0: 11 unless it is a question, then 1 for its mode, then 3 for its phase
unfoldable pub line_code : List ℕ → ℕ
line_code s = unless (is_question s) 11 (unless (leb 49 (get_or s 0 0) && leb (get_or s 0 0) 51) 1 (unless (ltb (phase_asked s) 4) 3 0))

-- a question whose phase is one: what the list of its segments needs
pub record Answered (s : List ℕ) : Type 0 where
  pub question : is_question s ≡ true
  pub phase : phase_asked s < 4
