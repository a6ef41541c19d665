-- The loop that stores the carriers whose role passes: what is left to choose, stored behind what is stored, is the whole.
-- Assumes nothing.
use Prim.Native.Nat.{ℕ, suc, ◌+◌}
use mathlib.Core.Bool.{Bool, true, false, cond}
use mathlib.Core.List.{List, [], ◌∷◌}
use mathlib.Core.Path.{◌≡◌, refl, ap, ◌∙◌}
use lib.ListN.{length, drop}
use Rattle.std.proofs.Common.{count_by, filter}
use Rattle.std.proofs.lemmas.List.Sums.{length-filter}
use lib.Seq.{sets}
use Rattle.lists.specs.Lists.{chosen}

-- as many are chosen as pass
pub chosen_counted : (t : ℕ → Bool) (k : ℕ) (roles : List ℕ) → length (chosen t k roles) ≡ count_by t roles
chosen_counted t k roles = filtered k roles ∙ length-filter t roles
  where
    filtered : (k : ℕ) (xs : List ℕ) → length (chosen t k xs) ≡ length (filter t xs)
    filtered k [] = refl
    filtered k (x ∷ xs) = by (t x) (filtered (suc k) xs)
      where
        by : (b : Bool) → length (chosen t (suc k) xs) ≡ length (filter t xs)
            → length (cond b (k ∷ chosen t (suc k) xs) (chosen t (suc k) xs)) ≡ length (cond b (x ∷ filter t xs) (filter t xs))
        by true e = ap suc e
        by false e = e

module _ (t : ℕ → Bool) (first : ℕ) (roles old : List ℕ) (at : ℕ) where
  pub record Left (i n : ℕ) (out : List ℕ) : Type 0 where
    pub count : n + length (chosen t (first + i) (drop i roles)) ≡ at + length (chosen t first roles)
    pub stored : sets out n (chosen t (first + i) (drop i roles)) ≡ sets old at (chosen t first roles)
