-- DEMAND 3. Whatever the spectra and samples hold, they are not judged differently for being negated, turned by a quarter, amplified by a power of
-- two or (the shift) moved. Here is what is claimed, and no proof: proofs/Demand3.antt proves `Demand3 c s` for every change c and every move s.
--
-- The words, each in a file of definitions alone:
--   Change, of_samples     which spectra are negated (of samples all or none), whether all are turned, and that all are amplified by 2 ^ gain
--                          (complex/specs/Changes, where `amplified` is both parts times 2 ^ gain)
--   Changed c len move     a list of spectra of len pairs so changed, with bin b of each put into bin `move b` (spectra/specs/Changes)
--   Allowed                the premise: the gain is 1, or it is at most 256 and all parts are whole numbers from -32,768 to 32,768. Without a gain
--                          there is no premise: NaNs and infinities are taken too (spectra/specs/Changes)
--   moved_bin, MovedRound  bin b moved by s is bin (b + s) mod n, and a list of ratios so moved (shift/specs/Shift, shift/specs/Moves)
--   InRange, BeatsAll      from -bound to bound; to have the greater score, which no NaN does or suffers (shift/specs/Moves)
--   louder_answer          both parts of the correlation times the gain twice, and all else as it was (guess/specs/Louder)
--   cfo_frac               the fractional carrier offset that both parts tell (cfo_frac/specs/CfoFrac)
-- Answers, and what is left in lent lists, are the definitions that the operations' contracts cite.
-- Definitions only.
use Rattle.std.specs.Prelude.{ℕ, ◌+◌, Bool, List, ◌≡◌, ℤ, pos, nat_abs, ◌+ℤ◌, length, Float, Option, Some, Result, Ok}
use Rattle.params.specs.declared.Mode.{Mode}
use Rattle.params.specs.declared.Refusal.{Refusal}
use Rattle.params.specs.Params.{fft_size, total_carriers, code_of}
use Rattle.complex.specs.Complex.{pair}
use Rattle.complex.specs.Changes.{Change, of_samples}
use Rattle.spectra.specs.Changes.{Changed, Allowed}
use Rattle.shift.specs.declared.FoundShift.{FoundShift}
use Rattle.shift.specs.Shift.{moved_bin, pattern, shift_leaves, shift_answer}
use Rattle.shift.specs.Moves.{InRange, BeatsAll, MovedRound}
use Rattle.guess.specs.declared.ModeGuess.{ModeGuess}
use Rattle.guess.specs.Guess.{guess_answer, guess_given}
use Rattle.guess.specs.Louder.{louder_answer}
use Rattle.cfo_frac.specs.CfoFrac.{cfo_frac}
use Rattle.pilot_phase.specs.PilotPhase.{phase_answer, counts_answer, lead_answer}
use Rattle.segment_kinds.specs.SegmentKinds.{kinds_code, kinds_leaves, kinds_answer, scores_answer}

-- ---- refusals: the answer for ys has the number of the answer for xs, whatever the two hold; `mode` is any number, also one that is no mode.
-- `room` is how many ratios, and how much scratch, are lent
pub record RefusedAlike (xs ys : List Float) : Type 0 where
  pub shift : (mode : Option Mode) (bound room : ℕ) → code_of (shift_answer mode ys bound room) ≡ code_of (shift_answer mode xs bound room)
  pub kinds : (mode : Option Mode) (room : ℕ) → kinds_code mode (length ys) room ≡ kinds_code mode (length xs) room
  pub phase : (mode : Option Mode) (kinds : List ℕ) → code_of (phase_answer mode kinds ys) ≡ code_of (phase_answer mode kinds xs)
  pub guess : (modes guards : List ℕ) (room : ℕ)
      → code_of (guess_answer ys modes guards room) ≡ code_of (guess_answer xs modes guards room)

-- ---- the shift: spectra xs of n pairs, changed and their bins moved round by s
-- the proviso of a move by s: by the ratios, shift z beats every other one of the range widened by the move, and moved along it stays in range
abbrev pub Proviso : Mode → ℕ → ℤ → List Float → ℤ → Type 0
Proviso mode bound s ratios z = BeatsAll (fft_size mode) (pattern mode) ratios (bound + nat_abs s) z × InRange bound (z +ℤ s)

pub record ShiftKept (mode : Mode) (bound : ℕ) (s : ℤ) (xs ys old : List Float) : Type 0 where
  -- after an accepted call the ratios left behind are moved round by s, bit for bit
  pub ratios : code_of (shift_answer (Some mode) xs bound (length old)) ≡ 0
      → MovedRound (fft_size mode) s (shift_leaves (Some mode) xs bound old) (shift_leaves (Some mode) ys bound old)
  -- not moved, the answer is the same
  pub answer : s ≡ pos 0 → shift_answer (Some mode) ys bound (length old) ≡ shift_answer (Some mode) xs bound (length old)
  -- moved, the shift moves along, with the same score, if it meets the proviso
  pub moved : (found : FoundShift) → shift_answer (Some mode) xs bound (length old) ≡ Ok found
      → Proviso mode bound s (shift_leaves (Some mode) xs bound old) found.shift
      → shift_answer (Some mode) ys bound (length old) ≡ Ok (record { shift = found.shift +ℤ s; score = found.score })

-- ---- the kinds: spectra of k_total pairs, changed
pub record KindsKept (mode : Mode) (xs ys old : List Float) : Type 0 where
  pub kinds : kinds_answer (Some mode) ys (length old) ≡ kinds_answer (Some mode) xs (length old)
  pub scores : scores_answer (Some mode) ys (length old) ≡ scores_answer (Some mode) xs (length old)
  pub ratios : kinds_leaves (Some mode) ys old ≡ kinds_leaves (Some mode) xs old

-- ---- the pilot phase: spectra of k_total pairs, changed; none, or the phase with its share, the four counts and the lead
pub record PhaseKept (mode : Mode) (kinds : List ℕ) (xs ys : List Float) : Type 0 where
  pub phase : phase_answer (Some mode) kinds ys ≡ phase_answer (Some mode) kinds xs
  pub counts : counts_answer (Some mode) kinds ys ≡ counts_answer (Some mode) kinds xs
  pub lead : lead_answer (Some mode) kinds ys ≡ lead_answer (Some mode) kinds xs

-- ---- the guess: samples, negated, turned and amplified
-- the fractional carrier offset of what a search found, or what was lent where nothing was
abbrev pub cfo_given : Result (Option ModeGuess) Refusal → Float → Float
cfo_given answer lent = guess_given (λ g. cfo_frac (pair g.correlation.re g.correlation.im)) answer lent

pub record GuessKept (gain : ℕ) (modes guards : List ℕ) (room : ℕ) (xs ys : List Float) : Type 0 where
  -- found or not, mode, guard, offset and metric are the same, and both parts of the correlation are multiplied by the gain twice
  pub answer : guess_answer ys modes guards room ≡ louder_answer gain (guess_answer xs modes guards room)
  -- the fractional offset that both parts tell is the same
  pub cfo : (lent : Float) → cfo_given (guess_answer ys modes guards room) lent ≡ cfo_given (guess_answer xs modes guards room) lent

-- ---- DEMAND 3, for every change c and move s. Samples are spectra of one pair
pub record Demand3 (c : Change) (s : ℤ) : Type 0 where
  pub refusals : (xs ys : List Float) → length ys ≡ length xs → RefusedAlike xs ys
  pub shift : (mode : Mode) (bound : ℕ) (xs ys old : List Float) → Allowed c (fft_size mode) xs
      → Changed c (fft_size mode) (λ b. moved_bin (fft_size mode) b s) xs ys → ShiftKept mode bound s xs ys old
  pub kinds : (mode : Mode) (xs ys old : List Float) → Allowed c (total_carriers mode) xs
      → Changed c (total_carriers mode) (λ b. b) xs ys → KindsKept mode xs ys old
  pub phase : (mode : Mode) (kinds : List ℕ) (xs ys : List Float) → Allowed c (total_carriers mode) xs
      → Changed c (total_carriers mode) (λ b. b) xs ys → PhaseKept mode kinds xs ys
  pub guess : (negates : Bool) (modes guards : List ℕ) (room : ℕ) (xs ys : List Float) → Allowed (of_samples negates c) 1 xs
      → Changed (of_samples negates c) 1 (λ b. b) xs ys → GuessKept c.gain modes guards room xs ys
