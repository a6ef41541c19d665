-- The most votes: what `max_by_key` picks of the phases is what `won_by` picks, and the maximum without one phase is what `next_to` picks.
-- Assumes nothing.
use Prim.Native.Nat.{ℕ, max}
use mathlib.Core.Bool.{Bool, true, false, cond, not}
use mathlib.Core.List.{List, [], ◌∷◌, map}
use mathlib.Core.Path.{◌≡◌, refl, sym, ap, subst, ◌∙◌}
use native.Mathlib.Omega.{arith}
use denote.Param.Members.{Mut}
use denote.Bor.{Bor}
use lib.Dec.{leb}
use Rattle.std.proofs.Common.{Option, Some, None}
use Rattle.std.specs.Fn.{CalledAt}
use Rattle.std.specs.Iterator.{KeyTurn, PicksMaxByKey}
use Rattle.std.specs.List.{FoldsTo, fold, filter, reduce}
use Rattle.std.specs.Option.{unwrap_or}
use Rattle.std.specs.Ordering.{max_by_ordering, nat_cmp}
use Rattle.std.proofs.lemmas.Iterator.{YieldsList, items_from_drains}
use Rattle.std.proofs.lemmas.List.{map-id}
use Rattle.std.proofs.lemmas.List.Folds.{max_of_map}
use Rattle.winner.specs.Winner.{larger, largest}

-- ---- the phase with the most
-- the later of equals is picked
picked : (a b x y : ℕ) → max_by_ordering (nat_cmp a b) x y ≡ cond (leb a b) y x
picked a b x y = grind arith

-- f, which g calls, gives h of each item, and stays as it was
module _ {F : Type 0} (g : Mut F (Bor ℕ × Unit {0}) ℕ) (f : F) (h : ℕ → ℕ)
    (says : (x k : ℕ) (q : F) → CalledAt g f x k q → (q ≡ f) × (k ≡ h x)) where
  abbrev Turn : (F × ℕ) × ℕ → ℕ → (F × ℕ) × ℕ → Type 0
  Turn = KeyTurn max_by_ordering max_by_ordering g nat_cmp

  abbrev at : ℕ → (F × ℕ) × ℕ
  at x = ((f, h x), x)

  abbrev later : ℕ → ℕ → ℕ
  later x z = cond (leb (h x) (h z)) z x

  turned : (x z : ℕ) (q : (F × ℕ) × ℕ) → Turn (at x) z q → q ≡ at (later x z)
  turned x z ((f', k'), z') (k, o, call, c, key, item) =
      let s = says z k f' call in
      let key' : k' ≡ h (later x z) = (rw (← c, s.1) at key) ∙ picked (h x) (h z) (h x) (h z) ∙ by (leb (h x) (h z)) in
      let item' : z' ≡ later x z = (rw (← c, s.1) at item) ∙ picked (h x) (h z) x z in
      cc
    where
      by : (b : Bool) → cond b (h z) (h x) ≡ h (cond b z x)
      by true = refl
      by false = refl

  abbrev best_of : List ℕ → ℕ
  best_of [] = 0
  best_of (x ∷ xs) = fold later x xs

  folded : (xs : List ℕ) (x y : ℕ) (q : F × ℕ) → FoldsTo Turn (at x) xs (q, y) → y ≡ best_of (x ∷ xs)
  folded [] x y q e = sym (ap (λ (p : (F × ℕ) × ℕ). p.1) e)
  folded (z ∷ zs) x y q (j, t, rest) = folded zs (later x z) y q (subst (λ (p : (F × ℕ) × ℕ). FoldsTo Turn p zs (q, y)) (turned x z j t) rest)

  pub best : {S : Type 0} {steps : S → Option ℕ → S → Type 0} {s : S} {x : ℕ} {xs : List ℕ} → YieldsList steps (λ (z : ℕ). z) s (x ∷ xs)
      → (r : Option ℕ) → PicksMaxByKey steps g nat_cmp s f r → unwrap_or r 0 ≡ best_of (x ∷ xs)
  best road None (u, (t, yields, end)) = let e = items_from_drains [] (t, yields, λ w. (u, end)) road in cc
  best {x = x} {xs = xs} road (Some y) (z, zs, k, f', q, (u, (t, yields, end)), call, folds) =
      let e : z ∷ zs ≡ x ∷ xs = sym (map-id (z ∷ zs)) ∙ items_from_drains (z ∷ zs) (t, yields, λ w. (u, end)) road in
      let a = says z k f' call in
      let begin : at z ≡ ((f', k), z) = cc in
      folded zs z y q (subst (λ (p : (F × ℕ) × ℕ). FoldsTo Turn p zs (q, y)) (sym begin) folds) ∙ ap best_of e

-- ---- the largest of the others
larger_max : (x m : ℕ) → larger x m ≡ max x m
larger_max x m = grind arith

-- what f gives of the items without those that pass t; the definition has 0 for these
module _ (t : ℕ → Bool) (f : ℕ → ℕ) where
  abbrev greatest : ℕ → List ℕ → ℕ
  greatest a ys = fold (λ m q. max m (f q)) a ys

  abbrev kept : List ℕ → List ℕ
  kept xs = filter (λ q. not (t q)) xs

  abbrev most : List ℕ → ℕ
  most xs = largest (map (λ q. cond (t q) 0 (f q)) xs)

  kept_max : (a : ℕ) (xs : List ℕ) → greatest a (kept xs) ≡ max a (most xs)
  kept_max a [] = omega arith
  kept_max a (x ∷ xs) = by (t x) (kept_max a xs) (kept_max (max a (f x)) xs)
    where
      by : (b : Bool) → greatest a (kept xs) ≡ max a (most xs) → greatest (max a (f x)) (kept xs) ≡ max (max a (f x)) (most xs)
          → greatest a (cond (not b) (x ∷ kept xs) (kept xs)) ≡ max a (larger (cond b 0 (f x)) (most xs))
      by true h k = h ∙ omega (arith, larger_max 0 (most xs))
      by false h k = k ∙ omega (arith, larger_max (f x) (most xs))

  -- `filter`, `map`, `max`, and 0 of none
  pub most_kept : (xs : List ℕ) → unwrap_or (reduce (λ p z. max_by_ordering (nat_cmp p z) p z) (map f (kept xs))) 0 ≡ most xs
  most_kept xs = max_of_map f (kept xs) ∙ kept_max 0 xs ∙ omega arith
