-- What the C functions return and leave: the number of the operation's answer, and for each lent number what the answer gives, or what was lent.
-- Both are the definitions of the crates that own the answers.
-- Definitions only.
use Rattle.std.specs.Prelude.{ℕ, cond, List, ◌≡◌, eqb, ℤ, length, Option, Result, Float}
use Rattle.params.specs.declared.Mode.{Mode}
use Rattle.params.specs.declared.Refusal.{Refusal}
use Rattle.params.specs.Params.{code_of, given}
use Rattle.ofdm.specs.Band.{bin_lookup, bin_given}
use Rattle.frame.specs.declared.CarrierRole.{CarrierRole}
use Rattle.carrier_role.specs.CarrierRole.{role_given}
use Rattle.carrier_lists.specs.Operations.{continual_list_answer, continual_list_leaves}
use Rattle.guess.specs.declared.ModeGuess.{ModeGuess}
use Rattle.guess.specs.Guess.{found_given, guess_given}
use Rattle.pilot_phase.specs.PilotPhase.{phase_answer, pilots_given, phase_given, share_given, beside_given, counts_answer, lead_answer}
use Rattle.frame_start.specs.declared.FrameStart.{FrameStart}
use Rattle.frame_start.specs.FrameStart.{StartTold, start_found, start_given, word_given}
use Rattle.segment_kinds.specs.SegmentKinds.{kinds_code, kinds_answer, scores_answer, kinds_leaves}
use Rattle.shift.specs.Shift.{shift_answer, shift_leaves}

-- what an accepted call leaves; where it is refused, what was lent stays as it was
abbrev pub if_accepted : {A : Type 0} → ℕ → A → A → A
if_accepted code answer lent = cond (eqb code 0) answer lent

pub record CarrierBin (mode : Option Mode) (k lent r bin : ℕ) : Type 0 where
  pub code : r ≡ code_of (bin_lookup mode k)
  pub leaves : bin ≡ bin_given (bin_lookup mode k) lent

pub record RoleLent (a : Result CarrierRole Refusal) (lent r role : ℕ) : Type 0 where
  pub code : r ≡ code_of a
  pub leaves : role ≡ role_given a lent

pub record ContinualCount (mode : Option Mode) (kinds out : List ℕ) (lent r : ℕ) (out' : List ℕ) (count : ℕ) : Type 0 where
  pub code : r ≡ code_of (continual_list_answer mode kinds (length out))
  pub counted : count ≡ given (λ n. n) (continual_list_answer mode kinds (length out)) lent
  pub leaves : out' ≡ continual_list_leaves mode kinds out

-- ---- the ratio of one bin
pub record BinRatioLent (a : Result Float Refusal) (x : Float) (r : ℕ) (x' : Float) : Type 0 where
  pub code : r ≡ code_of a
  pub ratio : x' ≡ given (λ y. y) a x

-- ---- the shift: z and s are lent for it and its score
pub record ShiftLent (mode : Option Mode) (xs : List Float) (bound : ℕ) (old : List Float) (z : ℤ) (s : Float) (r : ℕ) (now : List Float)
    (z' : ℤ) (s' : Float) : Type 0 where
  pub code : r ≡ code_of (shift_answer mode xs bound (length old))
  pub shift : z' ≡ given (λ f. f.shift) (shift_answer mode xs bound (length old)) z
  pub score : s' ≡ given (λ f. f.score) (shift_answer mode xs bound (length old)) s
  pub leaves : now ≡ shift_leaves mode xs bound old

-- ---- the kinds: ks and ss are lent for them and their scores
pub record KindsLent (mode : Option Mode) (xs old : List Float) (ks : List ℕ) (ss : List Float) (r : ℕ) (now : List Float) (ks' : List ℕ)
    (ss' : List Float) : Type 0 where
  pub code : r ≡ kinds_code mode (length xs) (length old)
  pub kinds : ks' ≡ if_accepted (kinds_code mode (length xs) (length old)) (kinds_answer mode xs (length old)) ks
  pub scores : ss' ≡ if_accepted (kinds_code mode (length xs) (length old)) (scores_answer mode xs (length old)) ss
  pub leaves : now ≡ kinds_leaves mode xs old

-- ---- the guess
pub record SamplesLent (a : Result ℕ Refusal) (n r n' : ℕ) : Type 0 where
  pub code : r ≡ code_of a
  pub samples : n' ≡ given (λ m. m) a n

-- f is lent for whether something was found, the others for the guess
pub record GuessLent (a : Result (Option ModeGuess) Refusal) (f m g o : ℕ) (t x y : Float) (r f' m' g' o' : ℕ) (t' x' y' : Float) : Type 0 where
  pub code : r ≡ code_of a
  pub found : f' ≡ found_given a f
  pub mode : m' ≡ guess_given (λ q. q.mode) a m
  pub guard : g' ≡ guess_given (λ q. q.guard) a g
  pub offset : o' ≡ guess_given (λ q. q.offset) a o
  pub metric : t' ≡ guess_given (λ q. q.metric) a t
  pub re : x' ≡ guess_given (λ q. q.correlation.re) a x
  pub im : y' ≡ guess_given (λ q. q.correlation.im) a y

-- ---- the soft TMCC value
pub record SoftLent (a : Result Float Refusal) (v : Float) (r : ℕ) (v' : Float) : Type 0 where
  pub code : r ≡ code_of a
  pub value : v' ≡ given (λ w. w) a v

-- ---- the pilot phase: f is lent for whether there are scattered pilots, p and s for the phase and its share, cs and l for counts and lead
pub record PhaseLent (mode : Option Mode) (kinds : List ℕ) (xs : List Float) (f p : ℕ) (s : Float) (cs : List ℕ) (l r f' p' : ℕ) (s' : Float)
    (cs' : List ℕ) (l' : ℕ) : Type 0 where
  pub code : r ≡ code_of (phase_answer mode kinds xs)
  pub found : f' ≡ pilots_given (phase_answer mode kinds xs) f
  pub phase : p' ≡ phase_given (phase_answer mode kinds xs) p
  pub share : s' ≡ share_given (phase_answer mode kinds xs) s
  pub counts : cs' ≡ beside_given (phase_answer mode kinds xs) (counts_answer mode kinds xs) cs
  pub lead : l' ≡ beside_given (phase_answer mode kinds xs) (lead_answer mode kinds xs) l

-- ---- the frame start: s and w are lent for the start and its word's code. Nothing refuses, and any answer that may be told is one
pub record StartLent (soft : List Float) (s w r f' s' w' : ℕ) : Type 0 where
  pub answer : Option FrameStart
  pub told : StartTold soft answer
  pub code : r ≡ 0
  pub found : f' ≡ start_found answer
  pub start : s' ≡ start_given answer s
  pub word : w' ≡ word_given answer w
