-- A row of places marked one after the other.
-- Assumes nothing.
use Prim.Native.Nat.{ℕ, ◌+◌, ◌<◌}
use mathlib.Core.Bool.{Bool, true, false, cond, ◌||◌}
use mathlib.Core.List.{List, [], ◌∷◌}
use mathlib.Core.Path.{◌≡◌, refl, sym, ap, ◌∙◌}
use native.Mathlib.Numerals.{add-one}
use borrow.Author.Tests.{eqb-true, eqb-false}
use lib.Dec.{eqb}
use lib.ListN.{length, get_or, drop, set, length-set}
use lib.Seq.{drop-cons, get_or-set_same, get_or-set_other}
use Rattle.lists.specs.Tests.{memb}
use Rattle.frame.specs.Inner.{marked}

pub length_marked : (ps : List ℕ) (role : ℕ) (out : List ℕ) → length (marked ps role out) ≡ length out
unfolding marked
length_marked [] role out = refl
length_marked (p ∷ ps) role out = length_marked ps role (set out p role) ∙ length-set out p role

-- one place more of the row
pub mark_one : (row : List ℕ) (i role : ℕ) (out : List ℕ) → i < length row
    → marked (drop i row) role out ≡ marked (drop (i + 1) row) role (set out (get_or row i 0) role)
unfolding marked
mark_one row i role out h = rw (drop-cons row i 0 h, add-one)

-- what stands at a place afterwards
pub marked_at : (ps : List ℕ) (role : ℕ) (out : List ℕ) (p : ℕ) → p < length out
    → get_or (marked ps role out) p 0 ≡ cond (memb p ps) role (get_or out p 0)
unfolding marked
marked_at [] role out p h = refl
marked_at (q ∷ ps) role out p h = by (eqb q p) refl (marked_at ps role (set out q role) p (rw length-set h))
  where
    by : (b : Bool) → eqb q p ≡ b → get_or (marked ps role (set out q role)) p 0 ≡ cond (memb p ps) role (get_or (set out q role) p 0)
        → get_or (marked ps role (set out q role)) p 0 ≡ cond (b || memb p ps) role (get_or out p 0)
    by true e r =
        let same : q ≡ p = eqb-true q p e in
        let here : get_or (set out q role) p 0 ≡ role = rw same (get_or-set_same out p role 0 h) in
        r ∙ (rw here (either (memb p ps)))
      where
        either : (m : Bool) → cond m role role ≡ role
        either true = refl
        either false = refl
    by false e r = r ∙ ap (λ (x : ℕ). cond (memb p ps) role x) (get_or-set_other out q p role 0 (λ s. eqb-false q p e (sym s)))
