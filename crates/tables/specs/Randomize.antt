-- Each randomising table sends the data carriers of a segment one to one onto themselves: sorted, it reads 0, 1, .. nc - 1.
-- Assumes nothing.
use Rattle.std.specs.Prelude.{ℕ, Bool, true, false, cond, ◌≡◌, refl, leb}
use mathlib.Core.List.Perm
use mathlib.Core.List.{List, [], ◌∷◌, Perm}
use Rattle.lists.specs.Lists.{range}
use Rattle.params.specs.declared.Mode.{Mode}
use Rattle.params.specs.declared.Mode.TheVariants.{M1, M2, M3}
use Rattle.params.specs.Params.{data_carriers_per_segment}
use Rattle.tables.specs.Rows.{carrier_randomize}

insert : ℕ → List ℕ → List ℕ
insert x [] = x ∷ []
insert x (y ∷ ys) = cond (leb x y) (x ∷ y ∷ ys) (y ∷ insert x ys)

sort : List ℕ → List ℕ
sort [] = []
sort (x ∷ xs) = insert x (sort xs)

inserted : (x : ℕ) (ys : List ℕ) → Perm (x ∷ ys) (insert x ys)
unfolding insert
inserted x [] = Perm.refl (x ∷ [])
inserted x (y ∷ ys) = here_or_later (leb x y) (Perm.trans (Perm.swap y x ys) (Perm.cons y (inserted x ys)))
  where
    here_or_later : (b : Bool) → Perm (x ∷ y ∷ ys) (y ∷ insert x ys) → Perm (x ∷ y ∷ ys) (cond b (x ∷ y ∷ ys) (y ∷ insert x ys))
    here_or_later true later = Perm.refl (x ∷ y ∷ ys)
    here_or_later false later = later

rearranged : (xs : List ℕ) → Perm xs (sort xs)
unfolding sort
rearranged [] = Perm.nil
rearranged (x ∷ xs) = Perm.trans (Perm.cons x (rearranged xs)) (inserted x (sort xs))

in_order : (mode : Mode) → sort (carrier_randomize mode) ≡ range (data_carriers_per_segment mode)
unfolding sort insert
in_order M1 = refl
in_order M2 = refl
in_order M3 = refl

-- the table of a mode is a permutation of 0, 1, .. nc - 1
pub randomized : (mode : Mode) → Perm (carrier_randomize mode) (range (data_carriers_per_segment mode))
randomized mode = rw in_order at (rearranged (carrier_randomize mode))
