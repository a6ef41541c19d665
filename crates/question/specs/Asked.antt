-- What is told of a line and of its parts where they are read.
-- Definitions only.
use Rattle.std.specs.Prelude.{ℕ, ◌+◌, ◌-◌, true, false, List, map, ◌≡◌, Some, Result, Ok, Err}
use Rattle.lists.specs.Tests.{all_in}
use Rattle.params.specs.declared.Refusal.{Refusal}
use Rattle.params.specs.declared.Refusal.TheVariants.{BadForm}
use Rattle.params.specs.declared.SegmentKind.{SegmentKind}
use Rattle.params.specs.Params.{kind_code, kind_codes}
use Rattle.question.specs.declared.Question.{Question}
use Rattle.question.specs.Question.{is_digit, is_kind_letter, mode_asked, phase_asked, kinds_asked}

-- a digit's value, or a byte that is no digit
abbrev pub DigitTold : ℕ → Result ℕ Refusal → Type 0
DigitTold b (Ok value) = (is_digit b ≡ true) × (value ≡ b - 48)
DigitTold b (Err refusal) = (is_digit b ≡ false) × (refusal ≡ BadForm)

-- a letter's kind, or a byte that is no kind's letter
abbrev pub LetterTold : ℕ → Result SegmentKind Refusal → Type 0
LetterTold b (Ok kind) = b ≡ 67 + kind_code kind
LetterTold b (Err refusal) = (is_kind_letter b ≡ false) × (refusal ≡ BadForm)

abbrev pub LettersTold : List ℕ → Result (List SegmentKind) Refusal → Type 0
LettersTold letters (Ok kinds) = (all_in is_kind_letter letters ≡ true) × (kind_codes kinds ≡ map (λ b. b - 67) letters)
LettersTold letters (Err refusal) = (all_in is_kind_letter letters ≡ false) × (refusal ≡ BadForm)

-- the question that a line asks
pub record Asked (s : List ℕ) (question : Question) : Type 0 where
  pub mode : mode_asked s ≡ Some question.mode
  pub phase : phase_asked s ≡ question.phase.number
  pub kinds : kinds_asked s ≡ kind_codes question.kinds
