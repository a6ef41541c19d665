-- What a stored answer says: its numbers, and what an entry that was lent must be after the call.
-- Definitions only.
use Rattle.std.specs.Prelude.{ℕ, ◌+◌, ◌*◌, ◌≤◌, ◌≡◌, cond, List, eqb, ltb, Float, length, get_or, Result, Ok, Err}
use Rattle.replay.specs.declared.Cut.{Cut}
use Rattle.std.specs.Float.{Format, binary32, binary64}
use Rattle.std.specs.Float.Ieee.{is_nan, to_bits}
use Rattle.replay.specs.declared.Owed.{Owed}
use Rattle.replay.specs.declared.Size.{Size}
use Rattle.replay.specs.declared.Size.TheVariants.{One, Four, Eight}
use Rattle.tally.specs.declared.Tally.{Tally}
use Rattle.tally.specs.Tally.{Counted, unlike}

-- the number of two bytes, the low one first, that begins at an index; of four, and of eight
abbrev pub number_at : List ℕ → ℕ → ℕ
number_at bytes at = get_or bytes (at + 1) 0 * 256 + get_or bytes at 0

abbrev pub word_at : List ℕ → ℕ → ℕ
word_at bytes at = number_at bytes (at + 2) * 65536 + number_at bytes at

abbrev pub long_at : List ℕ → ℕ → ℕ
long_at bytes at = word_at bytes (at + 4) * 4294967296 + word_at bytes at

-- how many bytes a stored number has; eight where a head tells neither one nor four
abbrev pub size_bytes : Size → ℕ
size_bytes One = 1
size_bytes Four = 4
size_bytes Eight = 8

abbrev pub size_told : ℕ → Size
size_told bytes = cond (eqb bytes 1) One (cond (eqb bytes 4) Four Eight)

-- the number at a place of numbers that have so many bytes each
abbrev pub number_of : List ℕ → Size → ℕ → ℕ
number_of bytes One place = get_or bytes place 0
number_of bytes Four place = word_at bytes (4 * place)
number_of bytes Eight place = long_at bytes (8 * place)

-- the bits of a float; every NaN has the same ones
abbrev pub stored_bits : Format → ℕ → Float → ℕ
stored_bits f plain x = cond (is_nan x) plain (to_bits f x)

abbrev pub bits32 : Float → ℕ
bits32 x = stored_bits binary32 0x7fc0_0000 x

abbrev pub bits64 : Float → ℕ
bits64 x = stored_bits binary64 0x7ff8_0000_0000_0000 x

-- the place of an entry among the stored ones: of entries that are all alike one is stored
abbrev pub place_of : ℕ → ℕ → ℕ
place_of kept i = cond (ltb i kept) i 0

-- what an entry must be: one that is written as it is stored, any other as it was before
abbrev pub owed_at : List ℕ → Owed → ℕ → ℕ
owed_at stored owed i = cond (ltb i owed.written) (number_of stored owed.size (place_of owed.kept i)) owed.before

-- the stored entries are there, whatever their size
pub record Holds (stored : List ℕ) (owed : Owed) : Type 0 where
  pub one : 8 ≤ length stored
  pub kept : 8 * owed.kept ≤ length stored

-- r is t with n entries more, each compared with what it must be
abbrev pub Compared : (ℕ → ℕ) → List ℕ → Owed → ℕ → Tally → Tally → Type 0
Compared got stored owed n t r = Counted t n (unlike (λ i. eqb (got i) (owed_at stored owed i)) n) r

-- what a check leaves of a count: every entry is compared with what some stored answer owes that writes no
-- more of them than there are; where the input is cut, what there was
pub record Found (got : ℕ → ℕ) (n : ℕ) (t r : Tally) : Type 0 where
  pub stored : List ℕ
  pub owed : Owed
  pub few : owed.written ≤ n
  pub compared : Compared got stored owed n t r

abbrev pub Checked : (ℕ → ℕ) → ℕ → Tally → Result (Unit {0}) Cut → Tally → Type 0
Checked got n t (Ok x) r = Found got n t r
Checked got n t (Err cut) r = r ≡ t
