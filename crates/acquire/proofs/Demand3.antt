-- Demand 3 holds. Each operation's answer is made from what a change keeps: the ratios of the bins, the ballots of the symbols, the sums of the guess
-- but for the gain; and its refusal is a function of lengths and codes alone.
-- Assumes nothing.
use Prim.Native.Nat.{ℕ, ◌+◌, ◌%◌, ◌≤◌}
use borrow.Author.Tests.{leb-true}
use mathlib.Core.Bool.{Bool, true, false, ◌&&◌, cond}
use mathlib.Core.List.{List}
use mathlib.Core.Path.{◌≡◌, refl, sym, ap, ◌∙◌, subst}
use lib.Dec.{T, eqb, leb, eqb→eq, lit<}
use lib.IntN.{ℤ, pos, nat_abs, ◌+ℤ◌}
use lib.ListN.{length}
use lib.Ieee.{Float, nan}
use Rattle.lists.specs.Refusals.{passed}
use Rattle.lists.specs.Select.{get_or_up_to}
use Rattle.lists.specs.Tests.{all_in, both_right}
use Rattle.params.specs.declared.Mode.{Mode}
use Rattle.std.proofs.Common.{Option, Some, Result, Ok, Err}
use Rattle.params.specs.declared.Refusal.{Refusal}
use Rattle.params.specs.Params as params
use Rattle.params.specs.Params.{fft_size, total_carriers, refusal_of}
use Rattle.complex.specs.Changes.{Change, of_samples}
use Rattle.spectra.specs.Spectra.{spectra_in, bin_pairs}
use Rattle.spectra.specs.Changes.{Changed, Allowed}
use Rattle.ratio.specs.Ratio.{bin_ratios, ratio_of, metric_leaves}
use Rattle.ratio.specs.Codes.{accepted as accepted_ratios}
use Rattle.ratio.specs.Unchanged.{changed_ratios, changed_ratio_at}
use Rattle.shift.specs.declared.FoundShift.{FoundShift}
use Rattle.shift.specs.Shift.{Winner, moved_bin, pattern, found_of, best_shift, shift_code, shift_leaves, shift_answer}
use Rattle.shift.specs.Moves.{InRange, BeatsAll, MovedRound}
use Rattle.shift.specs.MovedBins.{moved_below}
use Rattle.shift.specs.Moved.{pattern_laid, ratios_no_minus, same_winner, moved_winner}
use Rattle.shift.specs.Facts.{shift_number_lem}
use Rattle.samples_needed.specs.Samples.{is_mode, is_guard}
use Rattle.correlation.specs.Correlation.{pairs_in}
use Rattle.guess.specs.Guess.{guessed, guess_code, guess_answer}
use Rattle.guess.specs.Louder.{louder_answer}
use Rattle.guess.specs.Changed.{changed_guess, changed_parts}
use Rattle.guess.specs.Facts.{search_number_lem}
use Rattle.guess.specs.declared.ModeGuess.{ModeGuess}
use Rattle.cfo_frac.specs.CfoFrac.{cfo_frac}
use Rattle.cfo_frac.specs.Facts.{times_cfo}
use Rattle.pilot_phase.specs.PilotPhase.{phase_code}
use Rattle.pilot_phase.specs.Facts.{phase_number_lem}
use Rattle.pilot_phase.specs.Changed.{changed_phase, changed_counts, changed_lead}
use Rattle.segment_kinds.specs.SegmentKinds.{kinds_code, kinds_leaves, kinds_answer, scores_answer, detected_kinds, kind_scores}
use Rattle.acquire.specs.Demand3.{RefusedAlike, Proviso, ShiftKept, KindsKept, PhaseKept, cfo_given, GuessKept, Demand3}

-- what an accepted call gives, and nothing else, may rest on its being accepted
accepted : {A : Type 0} (code : ℕ) (x y z : A) → (code ≡ 0 → x ≡ y) → cond (eqb code 0) x z ≡ cond (eqb code 0) y z
accepted code x y z h = go (eqb code 0) (eqb→eq code 0)
  where
    go : (b : Bool) → (T b → code ≡ 0) → cond b x z ≡ cond b y z
    go true f = h (f tt)
    go false f = refl

-- ---- the kinds
module _ (c : Change) (mode : Mode) (xs ys old : List Float) (A : Allowed c (total_carriers mode) xs)
    (h : Changed c (total_carriers mode) (λ b. b) xs ys) where
  abbrev kinds_number : List Float → ℕ
  kinds_number zs = kinds_code (Some mode) (length zs) (length old)

  kinds_code_lem : kinds_number ys ≡ kinds_number xs
  kinds_code_lem = ap (λ (n : ℕ). kinds_code (Some mode) n (length old)) h.long

  same_ratios : kinds_number xs ≡ 0 → bin_ratios (total_carriers mode) ys ≡ bin_ratios (total_carriers mode) xs
  unfolding kinds_code
  same_ratios e = changed_ratios c (total_carriers mode) xs ys (accepted_ratios (total_carriers mode) (length xs) (length old) 0 e).few A h

  -- whatever is made of the ratios of an accepted call
  by_ratios : {B : Type 0} (f : List Float → B) (z : B)
      → cond (eqb (kinds_number ys) 0) (f (bin_ratios (total_carriers mode) ys)) z ≡ cond (eqb (kinds_number xs) 0) (f (bin_ratios (total_carriers mode) xs)) z
  by_ratios f z =
      ap (λ (n : ℕ). cond (eqb n 0) (f (bin_ratios (total_carriers mode) ys)) z) kinds_code_lem
      ∙ accepted (kinds_number xs) (f (bin_ratios (total_carriers mode) ys)) (f (bin_ratios (total_carriers mode) xs)) z (λ e. ap f (same_ratios e))

  kinds_kept : KindsKept mode xs ys old
  unfolding kinds_code kinds_answer scores_answer kinds_leaves metric_leaves
  kinds_kept =
      record {
        kinds = by_ratios (detected_kinds mode) _;
        scores = by_ratios (kind_scores mode) _;
        ratios = by_ratios (λ r. r) old;
      }

-- ---- the shift
abbrev found_in : Result FoundShift Refusal → FoundShift → FoundShift
found_in (Ok found) other = found
found_in (Err refusal) other = other

module _ (c : Change) (mode : Mode) (bound : ℕ) (s : ℤ) (xs ys old : List Float) (A : Allowed c (fft_size mode) xs)
    (h : Changed c (fft_size mode) (λ b. moved_bin (fft_size mode) b s) xs ys) where
  abbrev n : ℕ
  n = fft_size mode

  abbrev bins : List ℕ
  bins = pattern mode

  abbrev code_of : List Float → ℕ
  code_of zs = shift_code (Some mode) (length zs) (length old) bound

  abbrev answer_of : List Float → Result FoundShift Refusal
  answer_of zs = shift_answer (Some mode) zs bound (length old)

  abbrev leaves_of : List Float → List Float
  leaves_of zs = shift_leaves (Some mode) zs bound old

  abbrev best : List Float → Winner
  best zs = best_shift n bins bound (bin_ratios n zs)

  shift_code_lem : code_of ys ≡ code_of xs
  shift_code_lem = ap (λ (k : ℕ). shift_code (Some mode) k (length old) bound) h.long

  few_spectra : code_of xs ≡ 0 → spectra_in n (length xs) ≤ 1024
  unfolding shift_code
  few_spectra e = (accepted_ratios n (length xs) (length old) _ e).few

  moved_ratios : spectra_in n (length xs) ≤ 1024 → MovedRound n s (bin_ratios n xs) (bin_ratios n ys)
  unfolding bin_ratios
  moved_ratios N b B =
      get_or_up_to (λ k. ratio_of (bin_pairs n ys k)) n (moved_bin n b s) nan (moved_below n b s (pattern_laid mode).some)
      ∙ changed_ratio_at c n (λ b. moved_bin n b s) xs ys b B N A h
      ∙ sym (get_or_up_to (λ k. ratio_of (bin_pairs n xs k)) n b nan B)

  -- accepted, the ratios are left behind
  leaves : (zs : List Float) → code_of zs ≡ 0 → leaves_of zs ≡ bin_ratios n zs
  unfolding shift_leaves
  leaves zs e = rw e refl

  -- and the answer is the winner's
  won : (zs : List Float) → code_of zs ≡ 0 → answer_of zs ≡ Ok (found_of bins (best zs))
  unfolding shift_answer
  won zs e = rw e refl

  -- an answer with a shift is that of an accepted call
  was_accepted : (found : FoundShift) → answer_of xs ≡ Ok found → code_of xs ≡ 0
  was_accepted found e = sym (shift_number_lem (Some mode) xs bound (length old)) ∙ ap params.code_of e

  not_moved : s ≡ pos 0 → answer_of ys ≡ answer_of xs
  unfolding shift_answer
  not_moved z =
      let same : code_of xs ≡ 0 → best ys ≡ best xs = λ e. same_winner n bins (pattern_laid mode) bound (bin_ratios n xs) (bin_ratios n ys)
      (subst (λ (k : ℤ). MovedRound n k (bin_ratios n xs) (bin_ratios n ys)) z (moved_ratios (few_spectra e))) in
      ap (λ (k : ℕ). cond (eqb k 0) (Ok (found_of bins (best ys))) (Err (refusal_of k))) shift_code_lem
      ∙ accepted (code_of xs) _ _ (Err (refusal_of (code_of xs))) (λ e. ap (λ (w : Winner). Ok (found_of bins w)) (same e))

  moved_along : (found : FoundShift) → answer_of xs ≡ Ok found → Proviso mode bound s (leaves_of xs) found.shift
      → answer_of ys ≡ Ok (record { shift = found.shift +ℤ s; score = found.score })
  moved_along found e (beats, inside) =
      let a = was_accepted found e in
      let q : found_of bins (best xs) ≡ found = ap (λ r. found_in r found) (sym (won xs a) ∙ e) in
      let Z : (best xs).shift ≡ found.shift = ap (λ (f : FoundShift). f.shift) q in
      let b : BeatsAll n bins (bin_ratios n xs) (bound + nat_abs s) (best xs).shift =
      subst (λ (z : ℤ). BeatsAll n bins (bin_ratios n xs) (bound + nat_abs s) z) (sym Z)
      (subst (λ (r : List Float). BeatsAll n bins r (bound + nat_abs s) found.shift) (leaves xs a) beats) in
      let i : InRange bound ((best xs).shift +ℤ s) = subst (λ (z : ℤ). InRange bound (z +ℤ s)) (sym Z) inside in
      let m = moved_winner n bins (pattern_laid mode) bound s (bin_ratios n xs) (bin_ratios n ys) (ratios_no_minus n xs) (moved_ratios (few_spectra a)) b i in
      won ys (shift_code_lem ∙ a)
      ∙ ap (λ (w : Winner). Ok (found_of bins w)) m
      ∙ (λ j. Ok (record { shift = (q j).shift +ℤ s; score = (q j).score }))

  shift_kept : ShiftKept mode bound s xs ys old
  shift_kept =
      record {
        ratios = λ z.
            let e = sym (shift_number_lem (Some mode) xs bound (length old)) ∙ z in
            rw (leaves xs e, leaves ys (shift_code_lem ∙ e)) (moved_ratios (few_spectra e));
        answer = not_moved;
        moved = moved_along;
      }

-- ---- the pilot phase
phase_kept : (c : Change) (mode : Mode) (kinds : List ℕ) (xs ys : List Float) → Allowed c (total_carriers mode) xs
    → Changed c (total_carriers mode) (λ b. b) xs ys → PhaseKept mode kinds xs ys
phase_kept c mode kinds xs ys A h =
    record {
      phase = changed_phase c mode kinds xs ys A h;
      counts = changed_counts c mode kinds xs ys A h;
      lead = changed_lead c mode kinds xs ys A h;
    }

-- ---- the guess
-- what an accepted call tells of its modes and lengths
modes_few : (modes guards : List ℕ) (floats room : ℕ) → guess_code modes guards floats room ≡ 0 → (all_in is_mode modes ≡ true) × (pairs_in floats ≤ 1048576)
unfolding guess_code
modes_few modes guards floats room e =
    let a = passed (all_in is_mode modes) 1 _ (lit< tt) e in
    let b = passed (all_in is_guard guards) 9 _ (lit< tt) a.rest in
    let even = eqb (floats % 2) 0 in
    let few = leb (pairs_in floats) 1048576 in
    let d = passed (even && few) 5 _ (lit< tt) b.rest in
    (a.first, leb-true _ _ (both_right even few d.first))

module _ (negates : Bool) (c : Change) (modes guards : List ℕ) (room : ℕ) (xs ys : List Float) (A : Allowed (of_samples negates c) 1 xs)
    (h : Changed (of_samples negates c) 1 (λ b. b) xs ys) where
  abbrev search_code : List Float → ℕ
  search_code zs = guess_code modes guards (length zs) room

  search_code_lem : search_code ys ≡ search_code xs
  search_code_lem = ap (λ (k : ℕ). guess_code modes guards k room) h.long

  -- what is made of an answer, where it is the same of what an accepted call found
  by_search : {B : Type 0} (f g : Result (Option ModeGuess) Refusal → B) → ((k : ℕ) → f (Err (refusal_of k)) ≡ g (Err (refusal_of k)))
      → (search_code xs ≡ 0 → f (Ok (guessed ys modes guards)) ≡ g (Ok (guessed xs modes guards)))
      → f (guess_answer ys modes guards room) ≡ g (guess_answer xs modes guards room)
  unfolding guess_answer
  by_search f g refused found =
      ap (λ (k : ℕ). f (cond (eqb k 0) (Ok (guessed ys modes guards)) (Err (refusal_of k)))) search_code_lem
      ∙ go (eqb (search_code xs) 0) (eqb→eq (search_code xs) 0)
    where
      go : (b : Bool) → (T b → search_code xs ≡ 0) → f (cond b (Ok (guessed ys modes guards)) (Err (refusal_of (search_code xs))))
          ≡ g (cond b (Ok (guessed xs modes guards)) (Err (refusal_of (search_code xs))))
      go true e = found (e tt)
      go false e = refused (search_code xs)

  guess_kept : GuessKept c.gain modes guards room xs ys
  guess_kept =
      record {
        answer = by_search (λ r. r) (louder_answer c.gain) (λ k. refl)
            (λ e. let p = modes_few modes guards (length xs) room e in ap Ok (changed_guess negates c xs ys modes guards p.0 p.1 A h));
        cfo = λ lent. by_search (λ r. cfo_given r lent) (λ r. cfo_given r lent) (λ k. refl)
            (λ e. let p = modes_few modes guards (length xs) room e in
            changed_parts cfo_frac times_cfo negates c xs ys modes guards p.0 p.1 A h lent);
      }

-- ---- refusals: each is a function of lengths and codes
refused_alike : (xs ys : List Float) → length ys ≡ length xs → RefusedAlike xs ys
refused_alike xs ys long =
    record {
      shift = λ mode bound room.
          shift_number_lem mode ys bound room ∙ ap (λ (k : ℕ). shift_code mode k room bound) long ∙ sym (shift_number_lem mode xs bound room);
      kinds = λ mode room. ap (λ (k : ℕ). kinds_code mode k room) long;
      phase = λ mode kinds. phase_number_lem mode kinds ys ∙ ap (phase_code mode kinds) long ∙ sym (phase_number_lem mode kinds xs);
      guess = λ modes guards room.
          search_number_lem ys modes guards room ∙ ap (λ (k : ℕ). guess_code modes guards k room) long ∙ sym (search_number_lem xs modes guards room);
    }

pub demand_3 : (c : Change) (s : ℤ) → Demand3 c s
demand_3 c s =
    record {
      refusals = refused_alike;
      shift = λ mode bound xs ys old A h. shift_kept c mode bound s xs ys old A h;
      kinds = λ mode xs ys old A h. kinds_kept c mode xs ys old A h;
      phase = λ mode kinds xs ys A h. phase_kept c mode kinds xs ys A h;
      guess = λ negates modes guards room xs ys A h. guess_kept negates c modes guards room xs ys A h;
    }
