-- The table's rule, computed once over the whole: 65 entries that ascend, from 0 to 32768, an eighth of a turn in quarters of a unit. So the angle of a
-- slope starts at 0, never falls where the slope grows, and ends at 8192.
-- Assumes nothing.
use Rattle.std.specs.Prelude.{true, List, [], ◌∷◌, ◌⊎◌, ◌≡◌, refl, ℕ, zero, suc, ◌+◌, ◌-◌, ◌*◌, ◌/◌, ◌%◌, ◌≤◌, ◌<◌, leb, get_or, length}
use Rattle.std.proofs.Common.{inl, inr, sym, ap, ◌∙◌, subst, mul-add, le_refl, le_trans, le_of_suc-le-suc, mul-le-mul_right, arith, leb-true}
use Rattle.lists.specs.Tests.{all_in, both_left, both_right}
use Rattle.lists.specs.Select.{AscendingFrom, Ascending}
use Rattle.lists.specs.Search.{ascends_true}
use Rattle.ieee.specs.Numbers.{split}
use Rattle.angle.specs.Arctangents.{arctangents, entry_at}
use Rattle.angle.specs.Angle.{mixed, octant}

pub record TableRule : Type 0 where
  pub size : length arctangents ≡ 65
  pub first : get_or arctangents 0 1 ≡ 0
  pub last : get_or arctangents 64 0 ≡ 32768
  pub ascending : Ascending arctangents
  pub most : all_in (λ x. leb x 32768) arctangents ≡ true

pub table_rule : TableRule
unfolding arctangents
table_rule = record { size = refl; first = refl; last = refl; ascending = ascends_true 0 arctangents refl; most = refl }

-- ---- entries of a list that ascends up to `top`, with that behind its end
module _ (top : ℕ) where
  abbrev Most : List ℕ → Type 0
  Most xs = all_in (λ x. leb x top) xs ≡ true

  first_most : (x : ℕ) (xs : List ℕ) → Most (x ∷ xs) → x ≤ top
  first_most x xs m = leb-true x top (both_left (leb x top) (all_in (λ x. leb x top) xs) m)

  rest_most : (x : ℕ) (xs : List ℕ) → Most (x ∷ xs) → Most xs
  rest_most x xs m = both_right (leb x top) (all_in (λ x. leb x top) xs) m

  entry_most_of : (xs : List ℕ) → Most xs → (i : ℕ) → get_or xs i top ≤ top
  entry_most_of [] m i = le_refl top
  entry_most_of (x ∷ xs) m zero = first_most x xs m
  entry_most_of (x ∷ xs) m (suc i) = entry_most_of xs (rest_most x xs m) i

  behind : (x : ℕ) (xs : List ℕ) → x ≤ top → AscendingFrom (suc x) xs → Most xs → (i : ℕ) → x ≤ get_or xs i top
  behind x [] h a m i = h
  behind x (y ∷ ys) h a m zero = omega (arith, a.0)
  behind x (y ∷ ys) h a m (suc i) = omega (arith, a.0, behind y ys (first_most y ys m) a.1 (rest_most y ys m) i)

  entries_ascend : (low : ℕ) (xs : List ℕ) → AscendingFrom low xs → Most xs → (i j : ℕ) → i ≤ j → get_or xs i top ≤ get_or xs j top
  entries_ascend low [] a m i j h = le_refl top
  entries_ascend low (x ∷ xs) a m zero zero h = le_refl x
  entries_ascend low (x ∷ xs) a m zero (suc j) h = behind x xs (first_most x xs m) a.1 (rest_most x xs m) j
  entries_ascend low (x ∷ xs) a m (suc i) zero h = omega arith
  entries_ascend low (x ∷ xs) a m (suc i) (suc j) h = entries_ascend (suc x) xs a.1 (rest_most x xs m) i j (le_of_suc-le-suc h)

pub entry_most : (i : ℕ) → entry_at i ≤ 32768
entry_most i = entry_most_of 32768 arctangents table_rule.most i

entry_ascends : (i j : ℕ) → i ≤ j → entry_at i ≤ entry_at j
entry_ascends i j h = entries_ascend 32768 0 arctangents table_rule.ascending table_rule.most i j h

-- ---- between two entries
mixed_same : (x f : ℕ) → f ≤ 65536 → mixed x x f ≡ x * 65536
mixed_same x f F = sym (mul-add x (65536 - f) f) ∙ ap (λ (z : ℕ). x * z) (whole f F)
  where
    whole : (f : ℕ) → f ≤ 65536 → 65536 - f + f ≡ 65536
    whole f F = omega arith

pub mixed_most : (lo hi f top : ℕ) → lo ≤ top → hi ≤ top → f ≤ 65536 → mixed lo hi f ≤ top * 65536
mixed_most lo hi f top l h F =
    let p = mul-le-mul_right (65536 - f) l in
    let q = mul-le-mul_right f h in
    omega (arith, mixed_same top f F)

mixed_least : (lo hi f : ℕ) → lo ≤ hi → f ≤ 65536 → lo * 65536 ≤ mixed lo hi f
mixed_least lo hi f h F =
    let q = mul-le-mul_right f h in
    omega (arith, mixed_same lo f F)

-- the angle of a slope before it is rounded
abbrev at : ℕ → ℕ
at q = mixed (entry_at (q / 65536)) (entry_at (q / 65536 + 1)) (q % 65536)

pub octant_zero : octant 0 ≡ 0
unfolding octant arctangents
octant_zero = refl

pub octant_one : octant 4194304 ≡ 8192
unfolding octant arctangents
octant_one = refl

pub octant_most : (q : ℕ) → octant q ≤ 8192
unfolding octant
octant_most q =
    close (at q)
    (mixed_most (entry_at (q / 65536)) (entry_at (q / 65536 + 1)) (q % 65536) 32768 (entry_most (q / 65536)) (entry_most (q / 65536 + 1)) (omega arith))
  where
    close : (x : ℕ) → x ≤ 2147483648 → (x + 131072) / 262144 ≤ 8192
    close x h = omega arith

-- a steeper slope has no smaller angle
pub octant_ascends : (q r : ℕ) → q ≤ r → octant q ≤ octant r
unfolding octant
octant_ascends q r h = rounded (at q) (at r) (by (split (q / 65536) (r / 65536)))
  where
    rounded : (x y : ℕ) → x ≤ y → (x + 131072) / 262144 ≤ (y + 131072) / 262144
    rounded x y l = omega arith

    -- within an interval of the table
    further : (lo hi f g : ℕ) → lo ≤ hi → f ≤ g → g < 65536 → mixed lo hi f ≤ mixed lo hi g
    further lo hi f g l k G =
        let p = mul-le-mul_right (g - f) l in
        let d : lo * (65536 - f) ≡ lo * (65536 - g) + lo * (g - f) = ap (λ (z : ℕ). lo * z) (rest f g k G) ∙ mul-add lo (65536 - g) (g - f) in
        let e : hi * g ≡ hi * f + hi * (g - f) = ap (λ (z : ℕ). hi * z) (more f g k) ∙ mul-add hi f (g - f) in
        omega arith
      where
        rest : (f g : ℕ) → f ≤ g → g < 65536 → 65536 - f ≡ 65536 - g + (g - f)
        rest f g k G = omega arith

        more : (f g : ℕ) → f ≤ g → g ≡ f + (g - f)
        more f g k = omega arith

    by : (q / 65536 < r / 65536) ⊎ (r / 65536 ≤ q / 65536) → at q ≤ at r
    by (inl l) =
        let i = q / 65536 in
        let j = r / 65536 in
        let next = entry_at (i + 1) in
        le_trans (mixed_most (entry_at i) next (q % 65536) next (entry_ascends i (i + 1) (omega arith)) (le_refl next) (omega arith))
        (le_trans (mul-le-mul_right 65536 (entry_ascends (i + 1) j (omega arith)))
        (mixed_least (entry_at j) (entry_at (j + 1)) (r % 65536) (entry_ascends j (j + 1) (omega arith)) (omega arith)))
    by (inr l) =
        let e : q / 65536 ≡ r / 65536 = omega arith in
        let i = r / 65536 in
        subst (λ (k : ℕ). mixed (entry_at k) (entry_at (k + 1)) (q % 65536) ≤ at r) (sym e)
        (further (entry_at i) (entry_at (i + 1)) (q % 65536) (r % 65536) (entry_ascends i (i + 1) (omega arith)) (omega arith) (omega arith))
