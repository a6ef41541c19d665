-- The greatest of a list: of the lists that f makes of some numbers, joined, it is the greatest of each one's.
-- Assumes nothing.
use Rattle.std.specs.Prelude.{ℕ, List, [], ◌∷◌, ◌++◌, ◌≡◌, map, max, fold, unwrap_or}
use Rattle.std.specs.List.{reduce}
use Rattle.std.specs.Ordering.{max_by_ordering, nat_cmp}
use Rattle.std.proofs.Common.{refl, arith, ◌∙◌, sym}
use Rattle.std.proofs.lemmas.List.Sums.{fold-append}
use Rattle.std.proofs.lemmas.List.Folds.{max_of_map, fold-map}
use Rattle.lists.specs.Lists.{joined}
use Rattle.samples_needed.specs.Samples.{greatest}

fold_max : (a : ℕ) (xs : List ℕ) → fold max a xs ≡ max a (fold max 0 xs)
fold_max a [] = omega arith
fold_max a (x ∷ xs) = rw (fold_max (max a x) xs, fold_max (max 0 x) xs) (omega arith)

greatest_append : (xs ys : List ℕ) → greatest (xs ++ ys) ≡ max (greatest xs) (greatest ys)
greatest_append xs ys = fold-append max 0 xs ys ∙ fold_max (fold max 0 xs) ys

pub greatest_joined : (f : ℕ → List ℕ) (xs : List ℕ) → greatest (joined f xs) ≡ greatest (map (λ x. greatest (f x)) xs)
greatest_joined f [] = refl
greatest_joined f (x ∷ xs) =
    let rest = map (λ y. greatest (f y)) xs in
    greatest_append (f x) (joined f xs) ∙ rw (greatest_joined f xs) (sym (fold_max (max 0 (greatest (f x))) rest ∙ omega arith))

-- `map(h).max().unwrap_or(0)`
pub greatest_of : (h : ℕ → ℕ) (xs : List ℕ)
    → unwrap_or (reduce (λ p z. max_by_ordering (nat_cmp p z) p z) (map h xs)) 0 ≡ greatest (map h xs)
greatest_of h xs = max_of_map h xs ∙ sym (fold-map max h 0 xs)
