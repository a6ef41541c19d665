-- What document 01 says of the pilot phase: every spectrum votes, so the four counts add up to the number of spectra; zero spectra give phase 3,
-- share 0.0. The phase of symbol 0 is handed on to symbol j, and the counts of two captures, one behind the other, come from the counts of each.
-- Assumes nothing.
use Rattle.std.specs.Prelude.{ℕ, suc, ◌+◌, ◌-◌, ◌%◌, ◌≤◌, ◌<◌, Bool, true, false, cond, List, [], ◌∷◌, ◌++◌, ◌≡◌, refl, eqb, get_or, length, Float}
use Rattle.std.specs.Prelude.{Option, Some, None, Result, Ok, Err}
use Rattle.std.proofs.Common.{sym, ap, ◌∙◌, mod-lt, arith, eq-eqb, ne_eqb, eqb-true, lit<, lit≤}
use Rattle.std.proofs.lemmas.Bool.{eqb-false}
use Rattle.std.specs.Float.{binary32}
use Rattle.std.specs.Float.Ieee.{div, of_int, of_bits}
use Rattle.lists.specs.Lists.{up_to}
use Rattle.lists.specs.Refusals.{unless_most}
use Rattle.ieee.specs.Constants.{plus_zero}
use Rattle.lists.specs.Select.{length_up_to, get_or_up_to, up_to_same}
use Rattle.lists.specs.Tests.{agree}
use Rattle.params.specs.declared.Mode.{Mode}
use Rattle.params.specs.declared.Mode.TheVariants.{M1, M2, M3}
use Rattle.params.specs.declared.Refusal.{Refusal}
use Rattle.params.specs.Params.{total_carriers, refusal_number, code_of}
use Rattle.params.specs.Laws.{answered_code, some_number}
use Rattle.spectra.specs.Spectra.{spectra_in}
use Rattle.frame.specs.Operations.{are_kinds}
use Rattle.pilot_phase.specs.declared.PilotPhase.{PilotPhase}
use Rattle.ballots.specs.declared.Ballot.{Ballot}
use Rattle.ballots.specs.Ballots.{pilots, ballots}
use Rattle.ballots.specs.Facts.{ballots_length}
use Rattle.winner.specs.Winner.{won_by, share_of}
use Rattle.pilot_phase.specs.PilotPhase.{phase_at, vote_of, votes_from, votes, count_of, counts_of, plus_counts, turned_back}
use Rattle.pilot_phase.specs.PilotPhase.{phase_of, phase_code, detected, phase_answer, no_counts, counts_answer, beside_given}

-- ---- an answer's number is the code
pub phase_number_lem : (mode : Option Mode) (kinds : List ℕ) (xs : List Float) → code_of (phase_answer mode kinds xs) ≡ phase_code mode kinds (length xs)
unfolding phase_answer phase_code
phase_number_lem None kinds xs = refl
phase_number_lem (Some m) kinds xs =
    answered_code (phase_code (Some m) kinds (length xs)) _ (unless_most _ 2 _ 11 (lit≤ tt) (unless_most _ 5 0 11 (lit≤ tt) (lit≤ tt)))

-- so a refusal's number is never 0
pub refused_number : (mode : Option Mode) (kinds : List ℕ) (xs : List Float) (refusal : Refusal) → phase_answer mode kinds xs ≡ Err refusal
    → refusal_number refusal ≡ 0 → ⊥
refused_number mode kinds xs refusal e = some_number refusal

-- what stands beside the answer, by the answer's case
pub beside_detected : {A : Type 0} {a : Result (Option PilotPhase) Refusal} {found : Option PilotPhase} (given lent : A) → a ≡ Ok found
    → given ≡ beside_given a given lent
beside_detected given lent e = sym (ap (λ (x : Result (Option PilotPhase) Refusal). beside_given x given lent) e)

pub beside_refused : {A : Type 0} {a : Result (Option PilotPhase) Refusal} {refusal : Refusal} (given lent : A) → a ≡ Err refusal
    → lent ≡ beside_given a given lent
beside_refused given lent e = sym (ap (λ (x : Result (Option PilotPhase) Refusal). beside_given x given lent) e)

-- ---- the phase of symbol 0, handed on to symbol j
pub phase_below : (phase j : ℕ) → phase_at phase j < 4
phase_below phase j = mod-lt _ (lit< tt)

pub phase_of_first : (phase : ℕ) → phase < 4 → phase_at phase 0 ≡ phase
phase_of_first phase h = omega arith

-- handed on by i symbols and then by j
pub phase_onward : (phase i j : ℕ) → phase_at (phase_at phase i) j ≡ phase_at phase (i + j)
phase_onward phase i j = omega arith

-- a symbol that chooses the phase handed on to it votes for the phase of symbol 0
pub phase_voted : (phase j : ℕ) → phase < 4 → vote_of j (phase_at phase j) ≡ phase
phase_voted phase j h = omega arith

-- and the phase that a symbol votes for, handed on to it, is its choice
pub vote_handed : (choice j : ℕ) → choice < 4 → phase_at (vote_of j choice) j ≡ choice
vote_handed choice j h = omega arith

-- ---- every spectrum votes
pub votes_length : (j : ℕ) (bs : List Ballot) → length (votes_from j bs) ≡ length bs
unfolding votes_from
votes_length j [] = refl
votes_length j (b ∷ bs) = ap suc (votes_length (suc j) bs)

-- no phase has more of them than there are
pub count_few : (vs : List ℕ) (v : ℕ) → count_of vs v ≤ length vs
unfolding count_of
count_few [] v = omega arith
count_few (x ∷ vs) v = by (eqb x v) (count_few vs v)
  where
    by : (b : Bool) → count_of vs v ≤ length vs → cond b 1 0 + count_of vs v ≤ suc (length vs)
    by true h = omega arith
    by false h = omega arith

-- a number below four is one of the four
one_of_four : (x : ℕ) → x < 4 → cond (eqb x 0) 1 0 + cond (eqb x 1) 1 0 + cond (eqb x 2) 1 0 + cond (eqb x 3) 1 0 ≡ 1
one_of_four x h = agree (λ x. cond (eqb x 0) 1 0 + cond (eqb x 1) 1 0 + cond (eqb x 2) 1 0 + cond (eqb x 3) 1 0) (λ x. 1) 4 refl x h

-- so each ballot is counted once
pub votes_total : (j : ℕ) (bs : List Ballot) → let vs = votes_from j bs in count_of vs 0 + count_of vs 1 + count_of vs 2 + count_of vs 3 ≡ length bs
unfolding votes_from count_of
votes_total j [] = refl
votes_total j (b ∷ bs) =
    let here = one_of_four (vote_of j b.choice) (mod-lt _ (lit< tt)) in
    let rest = votes_total (suc j) bs in
    omega arith

pub counts_length : (vs : List ℕ) → length (counts_of vs) ≡ 4
unfolding counts_of
counts_length vs = length_up_to (count_of vs) 4

pub counts_at : (vs : List ℕ) (v : ℕ) → v < 4 → get_or (counts_of vs) v 0 ≡ count_of vs v
unfolding counts_of
counts_at vs v h = get_or_up_to (count_of vs) 4 v 0 h

-- and the answer's counts add up to the number of spectra, where there are pilots
pub counts_total : (mode : Mode) (kinds : List ℕ) (xs : List Float) → phase_code (Some mode) kinds (length xs) ≡ 0
    → eqb (length (pilots mode kinds 0)) 0 ≡ false → let counts = counts_answer (Some mode) kinds xs in
    get_or counts 0 0 + get_or counts 1 0 + get_or counts 2 0 + get_or counts 3 0 ≡ spectra_in (total_carriers mode) (length xs)
unfolding counts_answer counts_of
counts_total mode kinds xs accepted some = rw (accepted, some) (votes_total 0 (ballots mode kinds xs) ∙ ballots_length mode kinds xs)

-- without scattered pilots nothing is counted, whatever the number of spectra
pub none_counted : (mode : Mode) (kinds : List ℕ) (xs : List Float) → eqb (length (pilots mode kinds 0)) 0 ≡ true
    → counts_answer (Some mode) kinds xs ≡ no_counts
unfolding counts_answer
none_counted mode kinds xs none = rw none (by (eqb (phase_code (Some mode) kinds (length xs)) 0))
  where
    by : (accepted : Bool) → cond accepted no_counts no_counts ≡ no_counts
    by true = refl
    by false = refl

-- ---- ballots one behind another
pub count_append : (us vs : List ℕ) (v : ℕ) → count_of (us ++ vs) v ≡ count_of us v + count_of vs v
unfolding count_of
count_append [] vs v = omega arith
count_append (u ∷ us) vs v = omega (arith, count_append us vs v)

pub votes_append : (j : ℕ) (bs cs : List Ballot) → votes_from j (bs ++ cs) ≡ votes_from j bs ++ votes_from (j + length bs) cs
unfolding votes_from
votes_append j [] cs = let z : j + 0 ≡ j = omega arith in rw z
votes_append j (b ∷ bs) cs = let z : j + suc (length bs) ≡ suc j + length bs = omega arith in rw (z, votes_append (suc j) bs cs)

-- the vote of symbol n more
pub votes_more : (f : ℕ → Ballot) (n : ℕ) → votes (up_to f (suc n)) ≡ votes (up_to f n) ++ (vote_of n (f n).choice ∷ [])
unfolding votes_from
votes_more f n = let z : 0 + n ≡ n = omega arith in votes_append 0 (up_to f n) (f n ∷ []) ∙ rw (length_up_to f n, z)

-- turned back by j symbols and then by n
turned_inside : (x n : ℕ) → (x % 4 + 4 - n % 4) % 4 ≡ (x + 4 - n % 4) % 4
turned_inside x n = omega arith

turned_sum : (choice s : ℕ) → s < 8 → (choice + 4 - s % 4) % 4 ≡ (choice + 8 - s) % 4
turned_sum choice s h = omega arith

turned_twice : (j n choice : ℕ) → vote_of (j + n) choice ≡ vote_of n (vote_of j choice)
turned_twice j n choice =
    let whole : (j + n) % 4 ≡ (j % 4 + n % 4) % 4 = omega arith in
    let apart : choice + 8 - (j % 4 + n % 4) ≡ choice + 4 - j % 4 + 4 - n % 4 = omega arith in
    ap (λ (r : ℕ). (choice + 4 - r) % 4) whole
    ∙ turned_sum choice (j % 4 + n % 4) (omega arith)
    ∙ ap (λ (x : ℕ). x % 4) apart
    ∙ sym (turned_inside (choice + 4 - j % 4) n)

-- a symbol n later, with the same choice, votes for the phase that is n symbols back
vote_later : (j n choice v : ℕ) → v < 4 → eqb (vote_of (j + n) choice) v ≡ eqb (vote_of j choice) (phase_at v n)
vote_later j n choice v h = by (eqb vote (phase_at v n)) refl
  where
    vote : ℕ
    vote = vote_of j choice

    again : vote_of (j + n) choice ≡ vote_of n vote
    again = turned_twice j n choice

    by : (b : Bool) → eqb vote (phase_at v n) ≡ b → eqb (vote_of (j + n) choice) v ≡ b
    by true e = eq-eqb _ _ (again ∙ ap (vote_of n) (eqb-true vote (phase_at v n) e) ∙ phase_voted v n h)
    by false e =
        ne_eqb _ _ (λ z.
        eqb-false vote (phase_at v n) e (sym (vote_handed vote n (mod-lt _ (lit< tt))) ∙ ap (λ (u : ℕ). phase_at u n) (sym again ∙ z)))

count_later : (j n : ℕ) (bs : List Ballot) (v : ℕ) → v < 4 → count_of (votes_from (j + n) bs) v ≡ count_of (votes_from j bs) (phase_at v n)
unfolding votes_from count_of
count_later j n [] v h = refl
count_later j n (b ∷ bs) v h =
    let z : suc (j + n) ≡ suc j + n = omega arith in
    rw (vote_later j n b.choice v h, z, count_later (suc j) n bs v h)

-- the counts of joined lists of ballots are the first's plus the second's turned back by the first's length
pub counts_append : (bs cs : List Ballot)
    → counts_of (votes (bs ++ cs)) ≡ plus_counts (counts_of (votes bs)) (turned_back (length bs) (counts_of (votes cs)))
unfolding counts_of
counts_append bs cs =
    up_to_same (count_of (votes (bs ++ cs))) (λ v. get_or (counts_of (votes bs)) v 0 + get_or (turned_back (length bs) (counts_of (votes cs))) v 0) 4 each
  where
    each : (v : ℕ) → v < 4
        → count_of (votes (bs ++ cs)) v ≡ get_or (counts_of (votes bs)) v 0 + get_or (turned_back (length bs) (counts_of (votes cs))) v 0
    each v h =
        let n = length bs in
        let turned : ℕ → ℕ = λ v. get_or (counts_of (votes cs)) (phase_at v n) 0 in
        let later = count_later 0 n cs v h ∙ sym (counts_at (votes cs) (phase_at v n) (phase_below v n)) ∙ sym (get_or_up_to turned 4 v 0 h) in
        ap (λ (vs : List ℕ). count_of vs v) (votes_append 0 bs cs)
        ∙ count_append (votes bs) (votes_from (0 + n) cs) v
        ∙ (λ i. sym (counts_at (votes bs) v h) i + later i)

-- ---- zero spectra: phase 3 with share 0.0
pub no_spectra : (m : Mode) (kinds : List ℕ) → are_kinds kinds ≡ true → eqb (length (pilots m kinds 0)) 0 ≡ false
    → phase_answer (Some m) kinds [] ≡ Ok (Some (record { phase = 3; share = plus_zero binary32 }))
unfolding phase_answer detected phase_of phase_code counts_of count_of votes_from ballots won_by share_of div of_int of_bits
no_spectra M1 kinds k e = rw (k, e)
no_spectra M2 kinds k e = rw (k, e)
no_spectra M3 kinds k e = rw (k, e)
