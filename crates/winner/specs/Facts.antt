-- The phase that wins is one of the four and has the most votes, and it is the largest of those with as many; the next is the largest of the other
-- three counts, and the lead over it is at most the winner's count.
-- Assumes nothing.
use Rattle.std.specs.Prelude.{ℕ, zero, suc, ◌≤◌, ◌<◌, Bool, true, false, cond, List, [], ◌∷◌, ◌≡◌, eqb, leb, ltb, get_or, length}
use Rattle.std.proofs.Common.{suc-le-suc, inl, inr, sym, ◌∙◌, le_trans, le_of_suc-le-suc, not-suc-le-zero}
use Rattle.std.proofs.Common.{eq-or-lt_of_le, arith, leb-true, leb-false, ltb-true, ltb-false, ne_eqb, eqb-true}
use Rattle.std.proofs.Math.Path.{refl}
use Rattle.std.proofs.lemmas.Bool.{eqb-false}
use Rattle.lists.specs.Select.{get_or_up_to}
use Rattle.winner.specs.Winner.{better, won_by, larger, largest, others, next_to, lead_of}

-- ---- the phase that wins
-- w has the most votes of the phases below n, and is the largest of those with as many
record Wins (counts : List ℕ) (n w : ℕ) : Type 0 where
  phase : w < n
  most : (p : ℕ) → p < n → get_or counts p 0 ≤ get_or counts w 0
  ties : (p : ℕ) → p < n → w < p → get_or counts p 0 < get_or counts w 0

better_wins : (counts : List ℕ) (n w : ℕ) → Wins counts n w → Wins counts (suc n) (better counts w n)
better_wins counts n w h = by (leb (get_or counts w 0) (get_or counts n 0)) refl
  where
    by : (t : Bool) → leb (get_or counts w 0) (get_or counts n 0) ≡ t → Wins counts (suc n) (cond t n w)
    by true e =
        record {
          phase = omega arith;
          most = λ p l. elim (eq-or-lt_of_le (le_of_suc-le-suc l)) [ inl z ↦ rw z (omega arith) | inr g ↦ omega (arith, h.most p g, leb-true) ];
          ties = λ p l g. omega arith;
        }
    by false e =
        let less = leb-false (get_or counts w 0) (get_or counts n 0) e in
        record {
          phase = omega (arith, h.phase);
          most = λ p l. elim (eq-or-lt_of_le (le_of_suc-le-suc l)) [ inl z ↦ rw z (omega arith) | inr g ↦ h.most p g ];
          ties = λ p l k. elim (eq-or-lt_of_le (le_of_suc-le-suc l)) [ inl z ↦ rw z less | inr g ↦ h.ties p g k ];
        }

wins : (counts : List ℕ) → Wins counts 4 (won_by counts)
unfolding won_by
wins counts =
    let most : (p : ℕ) → p < 1 → get_or counts p 0 ≤ get_or counts 0 0 = λ p l. let z : p ≡ 0 = omega arith in rw z (omega arith) in
    let alone : Wins counts 1 0 = record { phase = omega arith; most = most; ties = λ p l g. omega arith } in
    better_wins counts 3 _ (better_wins counts 2 _ (better_wins counts 1 0 alone))

-- it is one of the four and has the most votes; of phases with as many, it is the largest
pub won_phase : (counts : List ℕ) → won_by counts < 4
won_phase counts = (wins counts).phase

pub won_most : (counts : List ℕ) (p : ℕ) → p < 4 → get_or counts p 0 ≤ get_or counts (won_by counts) 0
won_most counts = (wins counts).most

pub won_larger : (counts : List ℕ) (p : ℕ) → p < 4 → won_by counts < p → get_or counts p 0 < get_or counts (won_by counts) 0
won_larger counts = (wins counts).ties

-- ---- the next, and so the lead
-- the larger of two is one of them, and no smaller than either
pub larger_one : (R : ℕ → Type 0) (x m : ℕ) → R x → R m → R (larger x m)
larger_one R x m h l = by (ltb m x)
  where
    by : (b : Bool) → R (cond b x m)
    by true = h
    by false = l

pub larger_high : (x m : ℕ) → (x ≤ larger x m) × (m ≤ larger x m)
larger_high x m = by (ltb m x) refl
  where
    by : (b : Bool) → ltb m x ≡ b → (x ≤ cond b x m) × (m ≤ cond b x m)
    by true e = (omega arith, omega (arith, ltb-true m x e))
    by false e = (omega (arith, ltb-false m x e), omega arith)

-- and so is the largest of a list
largest_one : (R : ℕ → Type 0) → R 0 → (xs : List ℕ) → ((i : ℕ) → i < length xs → R (get_or xs i 0)) → R (largest xs)
largest_one R none [] h = none
largest_one R none (x ∷ xs) h =
    larger_one R x (largest xs) (h 0 (omega arith)) (largest_one R none xs (λ i l. h (suc i) (suc-le-suc l)))

largest_high : (xs : List ℕ) (i : ℕ) → i < length xs → get_or xs i 0 ≤ largest xs
largest_high [] i h = absurd (not-suc-le-zero h)
largest_high (x ∷ xs) zero h = (larger_high x (largest xs)).0
largest_high (x ∷ xs) (suc i) h = le_trans (largest_high xs i (le_of_suc-le-suc h)) (larger_high x (largest xs)).1

pub other_at : (counts : List ℕ) (p q : ℕ) → q < 4 → get_or (others counts p) q 0 ≡ cond (eqb q p) 0 (get_or counts q 0)
other_at counts p q h = get_or_up_to (λ q. cond (eqb q p) 0 (get_or counts q 0)) 4 q 0 h

-- it is no smaller than the count of any other phase, so the lead is the winner's count less the largest of the other three
pub next_most : (counts : List ℕ) (p q : ℕ) → q < 4 → (q ≡ p → ⊥) → get_or counts q 0 ≤ next_to counts p
unfolding next_to
next_most counts p q h d =
    let same : get_or (others counts p) q 0 ≡ get_or counts q 0 = other_at counts p q h ∙ rw (ne_eqb q p d) in
    omega (arith, same, largest_high (others counts p) q h)

-- some other phase has it
pub record OneOther (counts : List ℕ) (p : ℕ) : Type 0 where
  pub phase : ℕ
  pub below : phase < 4
  pub other : phase ≡ p → ⊥
  pub count : next_to counts p ≡ get_or counts phase 0

module _ (counts : List ℕ) (p : ℕ) where
  -- where the next is v
  abbrev Has : ℕ → Type 0
  Has v = next_to counts p ≡ v → OneOther counts p

  -- where it is 0, any other phase has it
  zero_has : (q : ℕ) → q < 4 → (q ≡ p → ⊥) → Has 0
  zero_has q h d z = record { phase = q; below = h; other = d; count = omega (arith, next_most counts p q h d) }

  zero_one : (b : Bool) → eqb p 0 ≡ b → Has 0
  zero_one true e = zero_has 1 (omega arith) (λ g. omega (arith, eqb-true))
  zero_one false e = zero_has 0 (omega arith) (λ g. eqb-false p 0 e (sym g))

  count_one : (q : ℕ) → q < 4 → (b : Bool) → eqb q p ≡ b → Has (cond b 0 (get_or counts q 0))
  count_one q h true e = zero_one (eqb p 0) refl
  count_one q h false e = λ g. record { phase = q; below = h; other = eqb-false q p e; count = g }

  pub next_one : OneOther counts p
  unfolding next_to
  next_one = largest_one Has (zero_one (eqb p 0) refl) (others counts p) (λ q h. rw (other_at counts p q h) (count_one q h (eqb q p) refl)) refl

-- so it is at most the winner's count
pub next_below : (counts : List ℕ) → next_to counts (won_by counts) ≤ get_or counts (won_by counts) 0
next_below counts =
    let o = next_one counts (won_by counts) in
    rw o.count (won_most counts o.phase o.below)

-- and so is the lead
pub lead_below : (counts : List ℕ) → lead_of counts ≤ get_or counts (won_by counts) 0
unfolding lead_of
lead_below counts = omega arith

-- without votes the lead is 0
pub no_lead : lead_of (0 ∷ 0 ∷ 0 ∷ 0 ∷ []) ≡ 0
unfolding lead_of won_by next_to
no_lead = refl
