-- Arrays that std makes by calls: where each call gives h of its number, `from_fn` gives h's values in order; and what `map` gives of each element.
-- Assumes nothing.
use Prim.Native.Nat.{ℕ, zero, suc, ◌+◌, ◌≤◌, ◌<◌}
use mathlib.Core.List.{List, map}
use mathlib.Core.Path.{◌≡◌, sym, subst, ◌∙◌}
use native.Mathlib.Decide.{dec_lt}
use native.Mathlib.Omega.{arith}
use denote.Param.Members.{Called, Mut}
use lib.ListN.{get_or, length}
use Rattle.std.proofs.lemmas.List.{ext_get_or, get_or-map, length-map}
use Rattle.std.specs.Array.{IsFromFnResult, IsFromFnResultFrom, IsMapOf}
use Rattle.lists.specs.Lists.{up_to}
use Rattle.lists.specs.Select.{length_up_to, get_or_up_to}

module _ {F B : Type 0} {g : Mut F (ℕ × Unit {0}) B} {f : F} (h : ℕ → B) (m : ℕ)
    (says : (i : ℕ) (y : B) (q : F) → i < m → Called g f (i, tt) y q → (q ≡ f) × (y ≡ h i)) (ys : List B) where
  entry : (n i : ℕ) → i + n ≤ m → IsFromFnResultFrom g f ys i n → (k : ℕ) → i ≤ k → k < i + n → (d : B) → get_or ys k d ≡ h k
  entry zero i r c k l u d = absurd (omega arith)
  entry (suc n) i r (q, y, e, call, rest) k l u d =
      let told = says i y q (omega arith) call in
      let later = subst (λ (p : F). IsFromFnResultFrom g p ys (i + 1) n) told.0 rest in
      by (dec_lt i k) (λ o. entry n (i + 1) (omega arith) later k (omega arith) (omega arith) d) (e.1 d ∙ told.1)
    where
      by : Dec (i < k) → (i < k → get_or ys k d ≡ h k) → get_or ys i d ≡ h i → get_or ys k d ≡ h k
      by (yes o) above here = above o
      by (no o) above here = let z : k ≡ i = omega arith in rw z here

  pub filled : IsFromFnResult g f ys m → ys ≡ up_to h m
  filled r =
      ext_get_or (h 0) ys (up_to h m) (r.long ∙ sym (length_up_to h m)) (λ i l.
      entry m 0 (omega arith) r.each i (omega arith) (omega (arith, r.long)) (h 0) ∙ sym (get_or_up_to h m i (h 0) (omega (arith, r.long))))

module _ {F A B C : Type 0} {g : Mut F (A × Unit {0}) B} {f : F} (v : B → C) (h : A → C) (d : A) (e : B)
    (says : (p q : F) (x : A) (y : B) → Called g p (x, tt) y q → v y ≡ h x) {xs : List A} {ys : List B} {n : ℕ} where
  pub mapped : length xs ≡ n → IsMapOf g f xs ys n → map v ys ≡ map h xs
  mapped long r =
      ext_get_or (v e) (map v ys) (map h xs) (length-map ys v ∙ r.long ∙ sym (length-map xs h ∙ long)) (λ i l.
      let u : i < n = omega (arith, length-map ys v, r.long) in
      get_or-map v ys i e (v e) (omega (arith, r.long)) ∙ says _ _ _ _ (r.at i d e u).2 ∙ sym (get_or-map h xs i d (v e) (omega (arith, long))))
