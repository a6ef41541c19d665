-- The start of a frame (document 02, "Find the frame start"; rx/mod.rs, `step_acquire`): a place in a list of soft TMCC values at which sixteen of
-- them, read as bits, spell one of the two synchronising words of ARIB STD-B31.
-- Definitions only.
use Rattle.std.specs.Prelude.{ℕ, ◌-◌, cond, List, [], ◌∷◌, map, ◌≡◌, Option, Some, None, Float, take, drop}
use Rattle.std.specs.Float.{binary32}
use Rattle.std.specs.Float.Ieee.{lt}
use Rattle.ieee.specs.Constants.{plus_zero}
use Rattle.frame_start.specs.declared.SyncWord.{SyncWord}
use Rattle.frame_start.specs.declared.SyncWord.TheVariants.{W0, W1}
use Rattle.frame_start.specs.declared.FrameStart.{FrameStart}

-- ---- the words: as the standard writes it, bit B1 first, and its complement
abbrev pub written : List ℕ
written = 0 ∷ 0 ∷ 1 ∷ 1 ∷ 0 ∷ 1 ∷ 0 ∷ 1 ∷ 1 ∷ 1 ∷ 1 ∷ 0 ∷ 1 ∷ 1 ∷ 1 ∷ 0 ∷ []

abbrev pub word_bits : SyncWord → List ℕ
word_bits W0 = written
word_bits W1 = map (λ b. 1 - b) written

abbrev pub word_code : SyncWord → ℕ
word_code W0 = 0
word_code W1 = 1

-- ---- a value below zero reads as bit 1, every other as 0
unfoldable pub bit_of : Float → ℕ
bit_of v = cond (lt v (plus_zero binary32)) 1 0

-- the answer that word w starts at f
abbrev pub start_at : ℕ → SyncWord → FrameStart
start_at f w = record { start = f; word = w }

-- the word stands at f: the sixteen values f to f + 15 spell it. Where the list ends before, there are fewer bits, which spell no word
unfoldable pub Stands : List Float → ℕ → SyncWord → Type 0
Stands soft f w = take 16 (drop f (map bit_of soft)) ≡ word_bits w

-- ---- the answer: any start at which a word stands, with that word; no start only if no word stands anywhere
unfoldable pub StartTold : List Float → Option FrameStart → Type 0
StartTold soft (Some s) = Stands soft s.start s.word
StartTold soft None = (f : ℕ) (w : SyncWord) → Stands soft f w → ⊥

-- what the answer gives: 1 where there is a start and 0 where there is none; the start and its word's code, or what was lent. No case is a refusal
abbrev pub start_found : Option FrameStart → ℕ
start_found (Some s) = 1
start_found None = 0

abbrev pub start_given : Option FrameStart → ℕ → ℕ
start_given (Some s) lent = s.start
start_given None lent = lent

abbrev pub word_given : Option FrameStart → ℕ → ℕ
word_given (Some s) lent = word_code s.word
word_given None lent = lent
