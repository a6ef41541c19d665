-- What `count_votes` keeps: the counts of the votes of the spectra passed, and of those among them that were heard.
-- Assumes nothing.
use Prim.Native.Nat.{ℕ, ◌+◌, ◌*◌, ◌-◌, ◌/◌, ◌≤◌, ◌<◌}
use mathlib.Core.Bool.{Bool, true, false, cond}
use mathlib.Core.List.{List, [], ◌∷◌, ◌++◌, append-nil}
use mathlib.Core.Path.{◌≡◌, refl, sym, ◌∙◌}
use native.Mathlib.Decide.{ℕ_discrete}
use native.Mathlib.Nat.{le_of_eq, div-add-mod', mul-le-mul_right, suc-mul, add-zero, mul_left_comm}
use native.Mathlib.Numerals.{add-one}
use native.Mathlib.Omega.{arith}
use borrow.Author.Tests.{eq-eqb, ne_eqb}
use mir.Val.{bool_byte}
use Rattle.std.proofs.Common.{Fits, w32}
use lib.Dec.{eqb}
use lib.ListN.{length, get_or, take, drop, set, length-set}
use lib.Seq.{get_or-set_same, get_or-set_other, set-get_or, ext_get_or, get_or-take, get_or-drop}
use lib.Ieee.{Float, nan}
use Rattle.lists.specs.Lists.{up_to}
use Rattle.lists.specs.Select.{length_up_to}
use Rattle.params.specs.declared.Mode.{Mode}
use Rattle.params.specs.Params.{total_carriers}
use Rattle.params.specs.Laws.{sized}
use Rattle.spectra.specs.Spectra.{pair_at, spectra_in}
use Rattle.ballots.specs.declared.Ballot.{Ballot}
use Rattle.ballots.specs.Ballots.{ballot_of, spectrum_at, ballot_at, heard_at, ballots}
use Rattle.pilot_phase.specs.PilotPhase.{vote_of, votes_from, votes, heard_votes_from, count_of, counts_of}
use Rattle.pilot_phase.specs.Facts.{votes_length, counts_length, counts_at, count_few, count_append, votes_more}
use Rattle.pilot_phase.specs.Heard.{heard_more, heard_few}
use Rattle.ballots.specs.Changed.{ballot_alike}
use Rattle.pilot_phase.specs.Inner.{Whole, VoteCountsOf}

-- ---- a vote more
module _ (vs : List ℕ) (x : ℕ) (h : x < 4) where
  abbrev counts_before : List ℕ
  counts_before = counts_of vs

  abbrev counts_after : List ℕ
  counts_after = counts_of (vs ++ (x ∷ []))

  abbrev counts_set : List ℕ
  counts_set = set counts_before x (get_or counts_before x 0 + 1)

  count_after : (i : ℕ) → i < 4 → get_or counts_after i 0 ≡ count_of vs i + cond (eqb x i) 1 0
  unfolding count_of
  count_after i l = counts_at (vs ++ (x ∷ [])) i l ∙ count_append vs (x ∷ []) i ∙ omega arith

  count_set : (i : ℕ) → i < 4 → Dec (i ≡ x) → get_or counts_set i 0 ≡ get_or counts_after i 0
  count_set i l (yes e) =
      let room : x < length counts_before = omega (arith, counts_length vs) in
      rw (e, get_or-set_same counts_before x (get_or counts_before x 0 + 1) 0 room, counts_at vs x h, count_after x h, eq-eqb x x refl)
  count_set i l (no n) =
      rw (get_or-set_other counts_before x i (get_or counts_before x 0 + 1) 0 n, counts_at vs i l, count_after i l, ne_eqb x i (λ e. n (sym e)))
      (omega arith)

  counts_more : counts_set ≡ counts_after
  counts_more =
      let size : length counts_set ≡ 4 = length-set counts_before x _ ∙ counts_length vs in
      ext_get_or 0 counts_set counts_after (size ∙ sym (counts_length (vs ++ (x ∷ [])))) (λ i l. count_set i (rw size at l) (ℕ_discrete i x))

-- or none, where the symbol was not heard; `bool_byte` is the code's number of a Bool
counts_if : (vs : List ℕ) (x : ℕ) → x < 4 → (b : Bool)
    → set (counts_of vs) x (get_or (counts_of vs) x 0 + bool_byte b) ≡ counts_of (vs ++ cond b (x ∷ []) [])
counts_if vs x h true = counts_more vs x h
counts_if vs x h false = rw (add-zero (get_or (counts_of vs) x 0), append-nil vs) (set-get_or (counts_of vs) x 0)

one_at_most : (b : Bool) → bool_byte b ≤ 1
one_at_most true = omega arith
one_at_most false = omega arith

-- ---- spectrum after spectrum
abbrev spectra_here : Mode → List Float → ℕ
spectra_here mode xs = spectra_in (total_carriers mode) (length xs)

-- the votes of the spectra before j
abbrev votes_to : Mode → List ℕ → List Float → ℕ → List ℕ
votes_to mode kinds xs j = votes (up_to (ballot_at mode kinds xs) j)

length_to : (mode : Mode) (kinds : List ℕ) (xs : List Float) (j : ℕ) → length (votes_to mode kinds xs j) ≡ j
length_to mode kinds xs j = votes_length 0 (up_to (ballot_at mode kinds xs) j) ∙ length_up_to (ballot_at mode kinds xs) j

pub votes_few : (mode : Mode) (kinds : List ℕ) (xs : List Float) (v : ℕ) → count_of (votes (ballots mode kinds xs)) v ≤ spectra_here mode xs
unfolding ballots
votes_few mode kinds xs v = omega (arith, count_few (votes_to mode kinds xs (spectra_here mode xs)) v, length_to mode kinds xs (spectra_here mode xs))

-- those of them that were heard
abbrev heard_votes_to : Mode → List ℕ → List Float → ℕ → List ℕ
heard_votes_to mode kinds xs j = heard_votes_from 0 (up_to (ballot_at mode kinds xs) j)

heard_votes_few : (mode : Mode) (kinds : List ℕ) (xs : List Float) (j : ℕ) → length (heard_votes_to mode kinds xs j) ≤ j
heard_votes_few mode kinds xs j = omega (arith, heard_few 0 (up_to (ballot_at mode kinds xs) j), length_up_to (ballot_at mode kinds xs) j)

-- both are counted
pub record Counted (mode : Mode) (kinds : List ℕ) (xs : List Float) (all heard : List ℕ) (j : ℕ) : Type 0 where
  pub counted : all ≡ counts_of (votes_to mode kinds xs j)
  pub listened : heard ≡ counts_of (heard_votes_to mode kinds xs j)

pub begin : {mode : Mode} {kinds : List ℕ} {xs : List Float} → Counted mode kinds xs (0 ∷ 0 ∷ 0 ∷ 0 ∷ []) (0 ∷ 0 ∷ 0 ∷ 0 ∷ []) 0
unfolding counts_of count_of votes_from heard_votes_from
begin = record { counted = refl; listened = refl }

-- w is the code's count of a spectrum's floats
module _ (xs : List Float) {mode : Mode} {w : ℕ} (floats : w ≡ 2 * total_carriers mode) (p : Whole mode (length xs))
    {j : ℕ} (h : j < length xs / w) where
  inside : j < spectra_here mode xs
  inside = rw floats at h

  whole : length xs ≡ spectra_here mode xs * w
  whole = rw floats (omega (arith, div-add-mod' (length xs) (2 * total_carriers mode), p.whole))

  -- spectrum j ends within the floats
  pub within : (j * w + w ≤ length xs) × (length xs ≤ 11503616) × (j < 1024)
  within =
      let f = mul-le-mul_right w p.few in
      let room : j * w + w ≤ spectra_here mode xs * w = rw (suc-mul j w) at (mul-le-mul_right w inside) in
      (omega (arith, room, whole), omega (arith, whole, f, floats, (sized mode).band_high), omega (arith, inside, p.few))

  abbrev part : List Float
  part = take (j * w + w - j * w) (drop (j * w) xs)

  width : j * w + w - j * w ≡ w
  width = omega arith

  float_at : (i : ℕ) → i < w → get_or part i nan ≡ get_or xs (j * w + i) nan
  float_at i l = rw (width, get_or-take w (drop (j * w) xs) i nan l, get_or-drop (j * w) xs i nan)

  part_at : (k : ℕ) → k < total_carriers mode → pair_at part k ≡ spectrum_at (total_carriers mode) xs j k
  part_at k l =
      let e : j * w ≡ 2 * (j * total_carriers mode) = rw floats (mul_left_comm j 2 (total_carriers mode)) in
      let re : j * w + 2 * k ≡ 2 * (j * total_carriers mode + k) = omega arith in
      let im : j * w + (2 * k + 1) ≡ 2 * (j * total_carriers mode + k) + 1 = omega arith in
      rw (float_at (2 * k) (omega (arith, floats)), float_at (2 * k + 1) (omega (arith, floats)), re, im)

  module _ {kinds : List ℕ} {all heard : List ℕ} (c : Counted mode kinds xs all heard j) where
    -- the counts of no more votes than symbols passed are few
    few : {counts : List ℕ} (vs : List ℕ) → counts ≡ counts_of vs → length vs ≤ j → (v : ℕ) → v < 4 → get_or counts v 0 < 1024
    few {counts} vs q l v h =
        let n : get_or counts v 0 ≡ count_of vs v = rw q (counts_at vs v h) in
        omega (arith, n, count_few vs v, within)

    -- so one more fits, in whatever phase
    pub few_votes : (v : ℕ) → v < 4 → Fits w32 (get_or all v 0 + 1)
    few_votes v h = omega (arith, few (votes_to mode kinds xs j) c.counted (le_of_eq (length_to mode kinds xs j)) v h)

    pub few_heard : (v : ℕ) → v < 4 → (b : Bool) → Fits w32 (get_or heard v 0 + bool_byte b)
    few_heard v h b =
        omega (arith, few (heard_votes_to mode kinds xs j) c.listened (heard_votes_few mode kinds xs j) v h, one_at_most b)

    module _ {b : Ballot} (e : b ≡ ballot_of mode kinds (pair_at part)) where
      cast : b ≡ ballot_at mode kinds xs j
      cast = e ∙ ballot_alike mode kinds (spectrum_at (total_carriers mode) xs j) (pair_at part) part_at

      abbrev vote : ℕ
      vote = vote_of j b.choice

      pub again : Counted mode kinds xs (set all vote (get_or all vote 0 + 1)) (set heard vote (get_or heard vote 0 + bool_byte b.heard)) (j + 1)
      again =
          record {
            counted = rw (c.counted, cast, add-one j, votes_more (ballot_at mode kinds xs) j) (counts_more (votes_to mode kinds xs j) _ (omega arith));
            listened =
                rw (c.listened, cast, add-one j, heard_more (ballot_at mode kinds xs) j)
                (counts_if (heard_votes_to mode kinds xs j) _ (omega arith) (heard_at mode kinds xs j));
          }

pub done : {mode : Mode} {kinds : List ℕ} {xs : List Float} {all heard : List ℕ} {j : ℕ} → j ≡ spectra_here mode xs → Counted mode kinds xs all heard j
    → VoteCountsOf (ballots mode kinds xs) (record { all = all; heard = heard })
unfolding ballots
done e c = record { all = rw e at c.counted; heard = rw e at c.listened }
