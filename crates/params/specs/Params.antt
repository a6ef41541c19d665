-- Document 01's codes of modes, guards and kinds, and its sizes of a mode (ARIB STD-B31, Tables 3-1 and 3-2).
-- Definitions only.
use Rattle.std.specs.Prelude.{ℕ, cond, eqb, List, map, Option, Some, None, Result, Ok, Err, ◌≡◌, ◌≤◌}
use Rattle.params.specs.declared.Refusal.{Refusal}
use Rattle.params.specs.declared.Refusal.TheVariants.{BadMode, BadKinds, BadPhase, Outside, NotWhole, NoSpectra, WrongLength}
use Rattle.params.specs.declared.Refusal.TheVariants.{BadBound, BadGuard, TooWide, BadForm}
use Rattle.params.specs.declared.Mode.{Mode}
use Rattle.params.specs.declared.Mode.TheVariants.{M1, M2, M3}
use Rattle.params.specs.declared.GuardInterval.{GuardInterval}
use Rattle.params.specs.declared.GuardInterval.TheVariants.{G1_4, G1_8, G1_16, G1_32}
use Rattle.params.specs.declared.SegmentKind.{SegmentKind}
use Rattle.params.specs.declared.SegmentKind.TheVariants.{Coherent, Differential}

-- the numbers of refusals
abbrev pub refusal_number : Refusal → ℕ
refusal_number BadMode = 1
refusal_number BadKinds = 2
refusal_number BadPhase = 3
refusal_number Outside = 4
refusal_number NotWhole = 5
refusal_number NoSpectra = 6
refusal_number WrongLength = 7
refusal_number BadBound = 8
refusal_number BadGuard = 9
refusal_number TooWide = 10
refusal_number BadForm = 11

-- the refusal of a number
abbrev pub refusal_of : ℕ → Refusal
refusal_of n =
    cond (eqb n 1) BadMode
    (cond (eqb n 2) BadKinds
    (cond (eqb n 3) BadPhase
    (cond (eqb n 4) Outside
    (cond (eqb n 5) NotWhole
    (cond (eqb n 6) NoSpectra
    (cond (eqb n 7) WrongLength
    (cond (eqb n 8) BadBound
    (cond (eqb n 9) BadGuard
    (cond (eqb n 10) TooWide
    BadForm)))))))))

-- the number that a call tells: 0 where it is accepted
abbrev pub code_of : {A : Type 0} → Result A Refusal → ℕ
code_of (Ok x) = 0
code_of (Err refusal) = refusal_number refusal

-- what a call answers that is refused by a number, or where that is 0 answers x
abbrev pub answered : {A : Type 0} → ℕ → A → Result A Refusal
answered code x = cond (eqb code 0) (Ok x) (Err (refusal_of code))

-- what is lent for an answer: a value of it, or where it is refused what was there
abbrev pub given : {A B : Type 0} → (A → B) → Result A Refusal → B → B
given value (Ok x) lent = value x
given value (Err refusal) lent = lent

abbrev pub mode_number : Mode → ℕ
mode_number M1 = 1
mode_number M2 = 2
mode_number M3 = 3

abbrev pub mode_from : ℕ → Option Mode
mode_from n = cond (eqb n 1) (Some M1) (cond (eqb n 2) (Some M2) (cond (eqb n 3) (Some M3) None))

abbrev pub ModeTold : ℕ → Result Mode Refusal → Type 0
ModeTold n (Ok mode) = mode_from n ≡ Some mode
ModeTold n (Err refusal) = (mode_from n ≡ None) × (refusal ≡ BadMode)

-- c, nc, k_total and n of the table of sizes
abbrev pub carriers_per_segment : Mode → ℕ
carriers_per_segment M1 = 108
carriers_per_segment M2 = 216
carriers_per_segment M3 = 432

abbrev pub data_carriers_per_segment : Mode → ℕ
data_carriers_per_segment M1 = 96
data_carriers_per_segment M2 = 192
data_carriers_per_segment M3 = 384

abbrev pub total_carriers : Mode → ℕ
total_carriers M1 = 1405
total_carriers M2 = 2809
total_carriers M3 = 5617

abbrev pub fft_size : Mode → ℕ
fft_size M1 = 2048
fft_size M2 = 4096
fft_size M3 = 8192

abbrev pub guard_from : ℕ → Option GuardInterval
guard_from d =
    cond (eqb d 4) (Some G1_4) (cond (eqb d 8) (Some G1_8) (cond (eqb d 16) (Some G1_16) (cond (eqb d 32) (Some G1_32) None)))

abbrev pub GuardTold : ℕ → Result GuardInterval Refusal → Type 0
GuardTold d (Ok guard) = guard_from d ≡ Some guard
GuardTold d (Err refusal) = (guard_from d ≡ None) × (refusal ≡ BadGuard)

abbrev pub kind_code : SegmentKind → ℕ
kind_code Coherent = 0
kind_code Differential = 1

-- the codes of the kinds of a band
unfoldable pub kind_codes : List SegmentKind → List ℕ
kind_codes = map kind_code

abbrev pub kind_from : ℕ → SegmentKind
kind_from code = cond (eqb code 0) Coherent Differential

abbrev pub KindTold : ℕ → Result SegmentKind Refusal → Type 0
KindTold code (Ok kind) = code ≡ kind_code kind
KindTold code (Err refusal) = (2 ≤ code) × (refusal ≡ BadKinds)
