-- A number that is looked for in a list that ascends: the first entry that is not below it decides whether it stands there.
-- Assumes nothing.
use Rattle.std.specs.Prelude.{ℕ, zero, suc, ◌+◌, ◌≤◌, ◌<◌, Bool, true, false, ◌&&◌, ◌||◌, List, [], ◌∷◌, ◌≡◌, refl, eqb, leb, length, get_or, drop}
use Rattle.std.proofs.Common.{◌∙◌, arith, le_of_suc-le-suc, not-suc-le-zero, add-one, leb-true, eqb-true, ne_eqb, drop_of_length-le, drop-cons}
use Rattle.lists.specs.Tests.{memb, both_left, both_right}
use Rattle.lists.specs.Select.{AscendingFrom, Ascending}

-- the test that antt computes of a list
abbrev pub ascends : ℕ → List ℕ → Bool
ascends low [] = true
ascends low (x ∷ xs) = leb low x && ascends (suc x) xs

pub ascends_true : (low : ℕ) (xs : List ℕ) → ascends low xs ≡ true → AscendingFrom low xs
ascends_true low [] e = tt
ascends_true low (x ∷ xs) e = (
  leb-true low x (both_left (leb low x) (ascends (suc x) xs) e),
  ascends_true (suc x) xs (both_right (leb low x) (ascends (suc x) xs) e),
)

-- a member is not below where the entries start
pub member_low : (low a : ℕ) (ks : List ℕ) → AscendingFrom low ks → memb a ks ≡ true → low ≤ a
member_low low a [] h m = absurd (let z : ◌≡◌ {A = ℕ} 0 1 = cc in omega arith)
member_low low a (x ∷ ks) h m = by (eqb x a) refl m (member_low (suc x) a ks h.1)
  where
    by : (b : Bool) → eqb x a ≡ b → (b || memb a ks) ≡ true → (memb a ks ≡ true → x < a) → low ≤ a
    by true e m later = omega (arith, h.0, eqb-true)
    by false e m later = omega (arith, h.0, later m)

-- so what lies below all entries is none of them
none_below : (low a : ℕ) (ks : List ℕ) → AscendingFrom low ks → a < low → memb a ks ≡ false
none_below low a ks h l = by (memb a ks) (member_low low a ks h)
  where
    by : (b : Bool) → (b ≡ true → low ≤ a) → b ≡ false
    by true f = absurd (omega (arith, f refl))
    by false f = refl

-- what stands behind an entry is greater
behind : (low : ℕ) (xs : List ℕ) → AscendingFrom low xs → (i : ℕ) → i < length xs → AscendingFrom (suc (get_or xs i 0)) (drop (suc i) xs)
behind low [] h i l = absurd (not-suc-le-zero l)
behind low (x ∷ xs) h zero l = h.1
behind low (x ∷ xs) h (suc i) l = behind (suc x) xs h.1 i (le_of_suc-le-suc l)

-- the walk through the list up to entry i: what was passed by is not a
module _ (a : ℕ) (xs : List ℕ) where
  abbrev pub PassedBy : ℕ → Type 0
  PassedBy i = memb a xs ≡ memb a (drop i xs)

  pub search_goes_on : (i : ℕ) → i < length xs → get_or xs i 0 < a → PassedBy i → PassedBy (i + 1)
  search_goes_on i h l p = p ∙ rw (drop-cons xs i 0 h, ne_eqb (get_or xs i 0) a (λ e. omega arith), add-one)

  pub search_ends : (i : ℕ) → length xs ≤ i → PassedBy i → false ≡ memb a xs
  search_ends i h p = rw p (rw (drop_of_length-le xs h))

  pub search_stops : (i : ℕ) → Ascending xs → i < length xs → a ≤ get_or xs i 0 → PassedBy i → eqb (get_or xs i 0) a ≡ memb a xs
  search_stops i up h l p = rw (p, drop-cons xs i 0 h) (by (eqb (get_or xs i 0) a) refl)
    where
      by : (b : Bool) → eqb (get_or xs i 0) a ≡ b → b ≡ (b || memb a (drop (suc i) xs))
      by true e = refl
      by false e =
          let later = none_below (suc (get_or xs i 0)) a (drop (suc i) xs) (behind 0 xs up i h) (omega arith) in
          rw later
