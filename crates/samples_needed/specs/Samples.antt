-- Modes and guards as lists of codes, and how many samples a guard search needs (acquire.rs, `samples_needed`).
-- Definitions only.
use Rattle.params.specs.declared.Mode.{Mode}
use Rattle.std.specs.Prelude.{ℕ, ◌+◌, ◌*◌, ◌/◌, Bool, true, false, List, map, ◌≡◌, leb, max, fold, Option, Some, None, Result}
use Rattle.lists.specs.Lists.{joined}
use Rattle.lists.specs.Refusals.{unless}
use Rattle.lists.specs.Tests.{all_in}
use Rattle.params.specs.declared.GuardInterval.{GuardInterval}
use Rattle.params.specs.declared.Refusal.{Refusal}
use Rattle.params.specs.Params.{mode_from, guard_from, fft_size, code_of, answered, given}

-- ---- codes
abbrev pub known_mode : Option Mode → Bool
known_mode None = false
known_mode (Some m) = true

abbrev pub known_guard : Option GuardInterval → Bool
known_guard None = false
known_guard (Some g) = true

abbrev pub is_mode : ℕ → Bool
is_mode n = known_mode (mode_from n)

abbrev pub is_guard : ℕ → Bool
is_guard d = known_guard (guard_from d)

-- n of a mode's number
abbrev pub size_of : Option Mode → ℕ
size_of None = 0
size_of (Some m) = fft_size m

abbrev pub fft_of : ℕ → ℕ
fft_of mode = size_of (mode_from mode)

-- samples of the guard with denominator d, and of the whole symbol
abbrev pub guard_of : ℕ → ℕ → ℕ
guard_of mode d = fft_of mode / d

abbrev pub symbol_of : ℕ → ℕ → ℕ
symbol_of mode d = fft_of mode + guard_of mode d

-- ---- samples for at least so many symbols, whatever the mode and guard of the lists
abbrev pub needed_by : ℕ → ℕ → ℕ → ℕ
needed_by symbols mode d = (symbols + 1) * symbol_of mode d + fft_of mode

-- the greatest, and 0 of none
abbrev pub greatest : List ℕ → ℕ
greatest xs = fold max 0 xs

abbrev pub samples_needed : List ℕ → List ℕ → ℕ → ℕ
samples_needed modes guards symbols = greatest (joined (λ mode. map (needed_by symbols mode) guards) modes)

-- 1; 9; 10 for symbols above 64
abbrev pub samples_code : List ℕ → List ℕ → ℕ → ℕ
samples_code modes guards symbols = unless (all_in is_mode modes) 1 (unless (all_in is_guard guards) 9 (unless (leb symbols 64) 10 0))

abbrev pub samples_answer : List ℕ → List ℕ → ℕ → Result ℕ Refusal
samples_answer modes guards symbols = answered (samples_code modes guards symbols) (samples_needed modes guards symbols)

-- the samples that an answer gives, or what was lent
abbrev pub samples_given : Result ℕ Refusal → ℕ → ℕ
samples_given r lent = given (λ n. n) r lent

pub record SamplesTold (modes guards : List ℕ) (symbols : ℕ) (r : Result ℕ Refusal) : Type 0 where
  pub number : code_of r ≡ samples_code modes guards symbols
  pub answer : r ≡ samples_answer modes guards symbols
