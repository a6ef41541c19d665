-- What document 02 says of the lead (Ask 4): it is worked out over the symbols that were heard, each keeping its number. Where none is heard it is
-- 0; where every symbol is heard it is the lead of the four counts, as it was before; and it never exceeds the number of symbols heard.
-- Assumes nothing.
use Prim.Native.Nat.{ℕ, zero, suc, ◌+◌, ◌≤◌, ◌<◌, zero-le}
use Rattle.std.specs.Prelude.{Bool, ◌≡◌, eqb, get_or, Float, Option, Some, None, Result, Ok, Err}
use Rattle.std.proofs.Math.Bool.{true, false, cond}
use mathlib.Core.List.{List, [], ◌∷◌, ◌++◌}
use Rattle.std.proofs.Math.Path.{refl, sym, ap}
use Rattle.std.proofs.Common.{◌∙◌}
use native.Mathlib.Omega.{arith}
use Rattle.std.proofs.Math.ListN.{length, length-append}
use Rattle.std.specs.Float.{nan, binary32}
use Rattle.ieee.specs.Constants.{plus_zero}
use Rattle.ieee.specs.Zeros.{canon}
use Rattle.lists.specs.Lists.{up_to}
use Rattle.lists.specs.Select.{length_up_to}
use Rattle.lists.specs.Tests.{count_below}
use Rattle.params.specs.declared.Mode.{Mode}
use Rattle.params.specs.Params.{total_carriers, refusal_of}
use Rattle.spectra.specs.Spectra.{spectra_in}
use Rattle.ballots.specs.declared.Ballot.{Ballot}
use Rattle.ballots.specs.Ballots.{pilots, ballot_at, heard_at, ballots}
use Rattle.ballots.specs.Silent.{zeros_silent}
use Rattle.winner.specs.Winner.{won_by, lead_of}
use Rattle.winner.specs.Facts.{won_phase, lead_below, no_lead}
use Rattle.params.specs.declared.Refusal.{Refusal}
use Rattle.pilot_phase.specs.declared.PilotPhase.{PilotPhase}
use Rattle.pilot_phase.specs.PilotPhase.{vote_of, votes_from, votes, heard_votes_from, count_of, counts_of, heard_counts}
use Rattle.pilot_phase.specs.PilotPhase.{phase_of, phase_code, detected, phase_answer, no_counts, counts_answer, lead_beside, lead_answer, pilots_given}
use Rattle.pilot_phase.specs.Facts.{votes_more, counts_at, count_few}

-- ---- symbol after symbol
pub heard_append : (j : ℕ) (bs cs : List Ballot) → heard_votes_from j (bs ++ cs) ≡ heard_votes_from j bs ++ heard_votes_from (j + length bs) cs
unfolding heard_votes_from
heard_append j [] cs = let z : j + 0 ≡ j = omega arith in rw z
heard_append j (b ∷ bs) cs =
    let z : j + suc (length bs) ≡ suc j + length bs = omega arith in
    rw (z, heard_append (suc j) bs cs) (by b.heard)
  where
    by : (t : Bool) → let rest = heard_votes_from (suc j + length bs) cs in let here = heard_votes_from (suc j) bs in let v = vote_of j b.choice in
        cond t (v ∷ (here ++ rest)) (here ++ rest) ≡ cond t (v ∷ here) here ++ rest
    by true = refl
    by false = refl

pub heard_few : (j : ℕ) (bs : List Ballot) → length (heard_votes_from j bs) ≤ length bs
unfolding heard_votes_from
heard_few j [] = zero-le
heard_few j (b ∷ bs) = by b.heard (heard_few (suc j) bs)
  where
    by : (t : Bool) → let later = heard_votes_from (suc j) bs in length later ≤ length bs → length (cond t (vote_of j b.choice ∷ later) later) ≤ suc (length bs)
    by true h = omega arith
    by false h = omega arith

module _ (f : ℕ → Ballot) where
  -- the vote of symbol n more, if it was heard
  pub heard_more : (n : ℕ) → heard_votes_from 0 (up_to f (suc n)) ≡ heard_votes_from 0 (up_to f n) ++ cond (f n).heard (vote_of n (f n).choice ∷ []) []
  unfolding heard_votes_from
  heard_more n = let z : 0 + n ≡ n = omega arith in heard_append 0 (up_to f n) (f n ∷ []) ∙ rw (length_up_to f n, z)

  -- there are as many votes as symbols heard
  heard_length : (n : ℕ) → length (heard_votes_from 0 (up_to f n)) ≡ count_below (λ j. (f j).heard) n
  unfolding heard_votes_from
  heard_length zero = refl
  heard_length (suc n) = ap length (heard_more n) ∙ by (f n).heard (heard_length n)
    where
      by : (t : Bool) → let before = heard_votes_from 0 (up_to f n) in let count = count_below (λ j. (f j).heard) n in
          length before ≡ count → length (before ++ cond t (vote_of n (f n).choice ∷ []) []) ≡ cond t 1 0 + count
      by true e = simp length-append (omega arith)
      by false e = simp length-append (omega arith)

  -- none, where no symbol is heard; all, where every one is
  none_heard : (n : ℕ) → ((j : ℕ) → j < n → (f j).heard ≡ false) → heard_votes_from 0 (up_to f n) ≡ []
  unfolding heard_votes_from
  none_heard zero h = refl
  none_heard (suc n) h = heard_more n ∙ rw (h n (omega arith), none_heard n (λ j l. h j (omega arith)))

  all_heard : (n : ℕ) → ((j : ℕ) → j < n → (f j).heard ≡ true) → heard_votes_from 0 (up_to f n) ≡ votes (up_to f n)
  unfolding heard_votes_from votes_from
  all_heard zero h = refl
  all_heard (suc n) h =
      let here = h n (omega arith) in
      let before = all_heard n (λ j l. h j (omega arith)) in
      heard_more n ∙ (λ i. before i ++ cond (here i) (vote_of n (f n).choice ∷ []) []) ∙ sym (votes_more f n)

-- ---- the lead, of any call
-- beside an answer stands the lead, or 0
beside : (R : ℕ → Type 0) (a : Result (Option PilotPhase) Refusal) (lead : ℕ) → R lead → R 0 → R (lead_beside a lead)
beside R (Ok (Some phase)) lead h z = h
beside R (Ok None) lead h z = z
beside R (Err refusal) lead h z = z

module _ (mode : Mode) (kinds : List ℕ) (xs : List Float) where
  abbrev symbols : ℕ
  symbols = spectra_in (total_carriers mode) (length xs)

  -- where no symbol is heard, it is 0
  pub silent_lead : ((j : ℕ) → j < spectra_in (total_carriers mode) (length xs) → heard_at mode kinds xs j ≡ false) → lead_answer (Some mode) kinds xs ≡ 0
  unfolding lead_answer counts_of count_of ballots
  silent_lead h =
      let none : lead_of (heard_counts (ballots mode kinds xs)) ≡ 0 =
      ap (λ (vs : List ℕ). lead_of (counts_of vs)) (none_heard (ballot_at mode kinds xs) symbols h) ∙ no_lead in
      beside (λ lead. lead ≡ 0) (phase_answer (Some mode) kinds xs) _ none refl

  -- where every symbol is heard, it is the lead of the four counts
  pub heard_lead : ((j : ℕ) → j < spectra_in (total_carriers mode) (length xs) → heard_at mode kinds xs j ≡ true)
      → lead_answer (Some mode) kinds xs ≡ lead_of (counts_answer (Some mode) kinds xs)
  unfolding lead_answer phase_answer detected phase_of counts_answer ballots
  heard_lead h = by (eqb (phase_code (Some mode) kinds (length xs)) 0) (eqb (length (pilots mode kinds 0)) 0)
    where
      bs : List Ballot
      bs = ballots mode kinds xs

      same : lead_of (heard_counts bs) ≡ lead_of (counts_of (votes bs))
      same = ap (λ (vs : List ℕ). lead_of (counts_of vs)) (all_heard (ballot_at mode kinds xs) symbols h)

      by : (accepted none : Bool)
          → lead_beside (cond accepted (Ok (cond none None (Some (phase_of bs)))) (Err (refusal_of (phase_code (Some mode) kinds (length xs)))))
          (lead_of (heard_counts bs))
          ≡ lead_of (cond accepted (cond none no_counts (counts_of (votes bs))) no_counts)
      by true true = sym no_lead
      by true false = same
      by false none = sym no_lead

  -- it never exceeds the number of symbols heard
  pub lead_few : lead_answer (Some mode) kinds xs ≤ count_below (heard_at mode kinds xs) (spectra_in (total_carriers mode) (length xs))
  unfolding lead_answer ballots
  lead_few = beside (λ lead. lead ≤ count) (phase_answer (Some mode) kinds xs) _ few zero-le
    where
      count : ℕ
      count = count_below (heard_at mode kinds xs) symbols

      vs : List ℕ
      vs = heard_votes_from 0 (up_to (ballot_at mode kinds xs) symbols)

      few : lead_of (counts_of vs) ≤ count
      few =
          let won = won_by (counts_of vs) in
          let n : get_or (counts_of vs) won 0 ≡ count_of vs won = counts_at vs won (won_phase (counts_of vs)) in
          omega (arith, lead_below (counts_of vs), n, count_few vs won, heard_length (ballot_at mode kinds xs) symbols)

-- where no phase is told, it is 0: without scattered pilots, and beside a refusal. With 0 lent, `pilots_given` is 0 exactly there
pub no_phase_lead : (mode : Option Mode) (kinds : List ℕ) (xs : List Float) → pilots_given (phase_answer mode kinds xs) 0 ≡ 0
    → lead_answer mode kinds xs ≡ 0
unfolding lead_answer
no_phase_lead None kinds xs e = refl
no_phase_lead (Some m) kinds xs e = by (phase_answer (Some m) kinds xs) e
  where
    by : (a : Result (Option PilotPhase) Refusal) → pilots_given a 0 ≡ 0 → lead_beside a (lead_of (heard_counts (ballots m kinds xs))) ≡ 0
    by (Ok (Some phase)) e = absurd (omega arith)
    by (Ok None) e = refl
    by (Err refusal) e = refl

-- so zeros alone have lead 0, of either sign (`canon` forgets it), whatever else is handed in
pub zeros_lead : (mode : Option Mode) (kinds : List ℕ) (xs : List Float) → ((i : ℕ) → i < length xs → canon (get_or xs i nan) ≡ plus_zero binary32)
    → lead_answer mode kinds xs ≡ 0
unfolding lead_answer
zeros_lead None kinds xs z = refl
zeros_lead (Some m) kinds xs z = silent_lead m kinds xs (zeros_silent m kinds xs z)
