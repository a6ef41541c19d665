-- Laws of the search over the shifts. Its winner is in range, and a shift that beats every other one of the range is the winner. No shift of the
-- range has a greater sum than the winner, equal sums keep the most negative, and sums that are all NaN leave the start.
-- Assumes nothing.
use Prim.Native.Nat.{ℕ, zero, suc, ◌+◌, ◌-◌, ◌*◌, ◌≤◌, ◌<◌}
use Rattle.std.specs.Prelude.{Bool, true, false, not, cond, List, [], ◌∷◌, ◌++◌, map, ◌⊎◌, ◌≡◌, leb, ℤ, pos, negsuc, Float}
use Rattle.std.proofs.lemmas.Bool.{false≢true}
use Rattle.std.proofs.lemmas.List.{map-append}
use Rattle.std.proofs.Math.Logic.{inl, inr}
use Rattle.std.proofs.Math.Path.{refl, ap, subst}
use Rattle.std.proofs.Common.{sym, ◌∙◌, arith, leb→le}
use Rattle.std.proofs.Math.Decide.{dec_lt}
use Rattle.std.proofs.Math.Dec.{T, nleb→lt}
use Rattle.std.proofs.Math.IntN.{nat_abs}
use Rattle.std.specs.Float.{nan, inf, fin}
use Rattle.std.specs.Float.Ieee.{minus, lt, le, is_nan}
use Rattle.ieee.specs.Constants.{lowest}
use Rattle.ieee.specs.Order.{lt_nan, lt_asym, lt_trans, lt_le_trans}
use Rattle.lists.specs.Lists.{range}
use Rattle.shift.specs.Shift.{Winner, winner, searched, shifts}

-- ---- the shifts by their number
-- shift j is j - bound, and shift z has the number z + bound
abbrev number_of : ℕ → ℤ → ℕ
number_of bound (pos k) = bound + k
number_of bound (negsuc k) = bound - suc k

-- the two cases of a difference
minus_case : (j bound : ℕ) (P : ℤ → Type 0) → (bound ≤ j → P (pos (j - bound))) → (j < bound → P (negsuc (bound - suc j))) → P (minus j bound)
minus_case j bound P above below = by (leb bound j) (leb→le bound j) (nleb→lt bound j)
  where
    by : (l : Bool) → (T l → bound ≤ j) → (T (not l) → j < bound) → P (cond l (pos (j - bound)) (negsuc (bound - suc j)))
    by true p q = above (p tt)
    by false p q = below (q tt)

shift_inside : (j bound : ℕ) → j < 2 * bound + 1 → nat_abs (minus j bound) ≤ bound
shift_inside j bound h = minus_case j bound (λ y. nat_abs y ≤ bound) (λ l. omega arith) (λ l. omega arith)

number_of_shift : (j bound : ℕ) → number_of bound (minus j bound) ≡ j
number_of_shift j bound = minus_case j bound (λ y. number_of bound y ≡ j) (λ l. omega arith) (λ l. omega arith)

number_below : (bound : ℕ) (z : ℤ) → nat_abs z ≤ bound → number_of bound z < 2 * bound + 1
number_below bound (pos k) h = omega arith
number_below bound (negsuc k) h = omega arith

shift_of_number : (bound : ℕ) (z : ℤ) → nat_abs z ≤ bound → minus (number_of bound z) bound ≡ z
shift_of_number bound (pos k) h = minus_case (bound + k) bound (λ y. y ≡ pos k) (λ l. ap pos (omega arith)) (λ l. absurd (omega arith))
shift_of_number bound (negsuc k) h =
    minus_case (bound - suc k) bound (λ y. y ≡ negsuc k) (λ l. absurd (omega arith)) (λ l. ap negsuc (omega arith))

-- ---- the search, shift by shift
-- one shift more
pub searched_more : (f : ℤ → Float) (w : Winner) (zs : List ℤ) (z : ℤ)
    → searched f w (zs ++ (z ∷ [])) ≡ cond (lt (searched f w zs).sum (f z)) (winner z (f z)) (searched f w zs)
unfolding searched
searched_more f w [] z = refl
searched_more f w (y ∷ zs) z = searched_more f (cond (lt w.sum (f y)) (winner y (f y)) w) zs z

-- either of two winners
either : (P : Winner → Type 0) (b : Bool) (x y : Winner) → (T b → P x) → ((T b → ⊥) → P y) → P (cond b x y)
either P true x y p q = p tt
either P false x y p q = q (λ t. t)

-- no sum beats itself, and no NaN beats a sum
lt_self : (x : Float) → T (lt x x) → ⊥
lt_self x t = subst T (lt_asym x x t) t

nan_loses : (x y : Float) → is_nan y ≡ true → T (lt x y) → ⊥
unfolding is_nan
nan_loses x nan e t = subst T (lt_nan x) t
nan_loses x (inf s) e t = false≢true e
nan_loses x (fin s m d) e t = false≢true e

module _ (f : ℤ → Float) (w : Winner) (at : ℕ → ℤ) where
  -- the winner of the first n
  abbrev won : ℕ → Winner
  won n = searched f w (map at (range n))

  won_next : (n : ℕ) → won (suc n) ≡ cond (lt (won n).sum (f (at n))) (winner (at n) (f (at n))) (won n)
  won_next n = rw map-append (searched_more f w (map at (range n)) (at n))

  -- shift n is taken where its sum is greater
  won_step : (n : ℕ) (P : Winner → Type 0) → (T (lt (won n).sum (f (at n))) → P (winner (at n) (f (at n))))
      → ((T (lt (won n).sum (f (at n))) → ⊥) → P (won n)) → P (won (suc n))
  won_step n P taken left = rw (won_next n) (either P (lt (won n).sum (f (at n))) (winner (at n) (f (at n))) (won n) taken left)

  -- what holds of every shift holds of the winner's
  won_any : (P : ℤ → Type 0) (n : ℕ) → P w.shift → ((j : ℕ) → j < n → P (at j)) → P (won n).shift
  unfolding searched
  won_any P zero h g = h
  won_any P (suc n) h g = won_step n (λ x. P x.shift) (λ _. g n (omega arith)) (λ _. won_any P n h (λ j l. g j (omega arith)))

  -- none of the first n has a greater sum than the winner
  won_most : (n j : ℕ) → j < n → T (lt (won n).sum (f (at j))) → ⊥
  won_most zero j l = absurd (omega arith)
  won_most (suc n) j l = by (dec_lt j n) (won_most n j)
    where
      by : Dec (j < n) → (j < n → T (lt (won n).sum (f (at j))) → ⊥) → T (lt (won (suc n)).sum (f (at j))) → ⊥
      by (yes k) go =
          won_step n (λ x. T (lt x.sum (f (at j))) → ⊥) (λ t g. go k (lt_trans (won n).sum (f (at n)) (f (at j)) t g)) (λ _. go k)
      by (no k) go =
          let e : j ≡ n = omega arith in
          rw e (won_step n (λ x. T (lt x.sum (f (at n))) → ⊥) (λ _. lt_self (f (at n))) (λ g. g))

  -- a winner above the start is at or below no sum before its own
  won_first : (number : ℤ → ℕ) → ((j : ℕ) → number (at j) ≡ j) → (n i : ℕ) → i < number (won n).shift → T (lt w.sum (won n).sum)
      → T (le (won n).sum (f (at i))) → ⊥
  unfolding searched
  won_first number e zero i = λ l g k. lt_self w.sum g
  won_first number e (suc n) i =
      won_step n (λ x. i < number x.shift → T (lt w.sum x.sum) → T (le x.sum (f (at i))) → ⊥)
      (λ t l g k. won_most n i (rw (e n) at l) (lt_le_trans (won n).sum (f (at n)) (f (at i)) t k)) (λ _. won_first number e n i)

  -- the winner is the start, or has the sum at its own shift, which is above the start
  won_kind : (n : ℕ) → (won n ≡ w) ⊎ (T (lt w.sum (won n).sum) × ((won n).sum ≡ f (won n).shift))
  unfolding searched
  won_kind zero = inl refl
  won_kind (suc n) =
      won_step n (λ x. (x ≡ w) ⊎ (T (lt w.sum x.sum) × (x.sum ≡ f x.shift)))
      (λ t. elim (won_kind n) [
        | inl e ↦ inr (subst (λ v. T (lt v.sum (f (at n)))) e t, refl)
        | inr p ↦ inr (lt_trans w.sum (won n).sum (f (at n)) p.0 t, refl)
      ])
      (λ _. won_kind n)

  -- sums that are all NaN leave the start
  won_nan : (n : ℕ) → ((j : ℕ) → j < n → is_nan (f (at j)) ≡ true) → won n ≡ w
  unfolding searched
  won_nan zero h = refl
  won_nan (suc n) h =
      won_step n (λ x. x ≡ w) (λ t. absurd (nan_loses (won n).sum (f (at n)) (h n (omega arith)) t))
      (λ _. won_nan n (λ j l. h j (omega arith)))

  -- shift i beats every other one of the first m, and the start
  module _ (i m : ℕ) (beats : (j : ℕ) → j < m → (j ≡ i → ⊥) → T (lt (f (at j)) (f (at i)))) (start : T (lt w.sum (f (at i)))) where
    -- until it comes, the best sum is below its sum
    won_before : (n : ℕ) → n ≤ m → n ≤ i → T (lt (won n).sum (f (at i)))
    unfolding searched
    won_before zero h l = start
    won_before (suc n) h l =
        won_step n (λ x. T (lt x.sum (f (at i)))) (λ _. beats n (omega arith) (λ e. omega arith)) (λ _. won_before n (omega arith) (omega arith))

    -- from then on it is the winner
    won_after : (n : ℕ) → n ≤ m → i < n → won n ≡ winner (at i) (f (at i))
    won_after zero h l = absurd (omega arith)
    won_after (suc n) h l = won_next n ∙ by (dec_lt i n) (λ k. won_after n (omega arith) k)
      where
        taken : (b : Bool) → T b → cond b (winner (at i) (f (at i))) (won i) ≡ winner (at i) (f (at i))
        taken true t = refl
        taken false t = absurd t

        by : Dec (i < n) → (i < n → won n ≡ winner (at i) (f (at i)))
            → cond (lt (won n).sum (f (at n))) (winner (at n) (f (at n))) (won n) ≡ winner (at i) (f (at i))
        by (yes k) go = rw (go k, lt_asym (f (at n)) (f (at i)) (beats n (omega arith) (λ e. omega arith)))
        by (no k) go =
            let e : n ≡ i = omega arith in
            rw e (taken (lt (won i).sum (f (at i))) (won_before i (omega arith) (omega arith)))

-- ---- the search from -bound to bound
module _ (f : ℤ → Float) (bound : ℕ) where
  abbrev found : Winner
  found = searched f (winner (pos 0) lowest) (shifts bound)

  pub found_inside : nat_abs found.shift ≤ bound
  unfolding shifts
  found_inside =
      won_any f (winner (pos 0) lowest) (λ j. minus j bound) (λ y. nat_abs y ≤ bound) (2 * bound + 1) (omega arith) (λ j l. shift_inside j bound l)

  pub found_greatest : (z : ℤ) → nat_abs z ≤ bound → ((y : ℤ) → nat_abs y ≤ bound → (y ≡ z → ⊥) → T (lt (f y) (f z))) → T (lt lowest (f z))
      → found ≡ winner z (f z)
  unfolding shifts
  found_greatest z inside beats start =
      let i = number_of bound z in
      let here : minus i bound ≡ z = shift_of_number bound z inside in
      subst (λ y. found ≡ winner y (f y)) here
      (won_after f (winner (pos 0) lowest) (λ j. minus j bound) i (2 * bound + 1)
      (λ j l g. subst (λ y. T (lt (f (minus j bound)) (f y))) (sym here)
      (beats (minus j bound) (shift_inside j bound l) (λ e. g (sym (number_of_shift j bound) ∙ ap (number_of bound) e))))
      (subst (λ y. T (lt lowest (f y))) (sym here) start) (2 * bound + 1) (omega arith) (number_below bound z inside))

  pub found_most : (j : ℕ) → j < 2 * bound + 1 → T (lt found.sum (f (minus j bound))) → ⊥
  unfolding shifts
  found_most = won_most f (winner (pos 0) lowest) (λ j. minus j bound) (2 * bound + 1)

  pub found_first : (i j : ℕ) → i < j → found.shift ≡ minus j bound → T (lt lowest found.sum) → T (le found.sum (f (minus i bound))) → ⊥
  unfolding shifts
  found_first i j l e =
      won_first f (winner (pos 0) lowest) (λ j. minus j bound) (number_of bound) (λ j. number_of_shift j bound) (2 * bound + 1) i
      (rw (e, number_of_shift j bound) l)

  pub found_nan : ((j : ℕ) → j < 2 * bound + 1 → is_nan (f (minus j bound)) ≡ true) → found ≡ winner (pos 0) lowest
  unfolding shifts
  found_nan = won_nan f (winner (pos 0) lowest) (λ j. minus j bound) (2 * bound + 1)

  pub found_kind : (found ≡ winner (pos 0) lowest) ⊎ (T (lt lowest found.sum) × (found.sum ≡ f found.shift))
  unfolding shifts
  found_kind = won_kind f (winner (pos 0) lowest) (λ j. minus j bound) (2 * bound + 1)
