-- What `pattern_sum` adds up: ratios at bins that lie among them, from the left.
-- Assumes nothing.
use Rattle.std.proofs.Common.{◌≡◌, refl, ℕ, ◌<◌, List, [], ◌∷◌, sym, ◌∙◌, subst}
use Rattle.std.proofs.iter.Serving.{BeginsIn}
use Rattle.std.proofs.lemmas.Grind.{get_or_default_zero}
use Rattle.std.specs.Prelude.{Float, from_bits}
use Rattle.std.specs.List.{fold}
use Rattle.std.specs.Float.Ieee.{binary32, add, neg, of_bits}
use Rattle.ieee.specs.Constants.{minus_zero}
use Rattle.ieee.specs.Sums.{total}
use Rattle.lists.specs.Lists.{Inside}

-- the first of the bins that are left is one of them
pub first_inside : (bins : List ℕ) (n : ℕ) → Inside bins n → (x : ℕ) (ys t : List ℕ) → BeginsIn ys bins → ys ≡ x ∷ t → x < n
first_inside bins n h x ys t b e =
    let c : BeginsIn (x ∷ t) bins = subst (λ (z : List ℕ). BeginsIn z bins) e b in
    subst (λ (z : ℕ). z < n) (sym (get_or_default_zero bins c.0 x c.1) ∙ c.2) (h c.0 c.1)

-- the sum that std makes
fold_total : (s : Float) (xs : List Float) → fold (λ a x. add binary32 a x) s xs ≡ total binary32 s xs
unfolding total
fold_total s [] = refl
fold_total s (x ∷ xs) = fold_total (add binary32 s x) xs

minus : neg (from_bits binary32 0) ≡ minus_zero
unfolding neg of_bits
minus = refl

pub sum_total : (xs : List Float) → fold (λ a x. add binary32 a x) (neg (from_bits binary32 0)) xs ≡ total binary32 minus_zero xs
sum_total xs = fold_total _ xs ∙ rw minus refl
