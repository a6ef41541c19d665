-- Sums that hold prefix sums, entry for entry, give the sums over the guards of an offset.
-- Assumes nothing.
use Rattle.std.specs.Prelude.{◌≡◌, ℕ, ◌+◌, ◌-◌, ◌*◌, ◌/◌, ◌≤◌, Bool, true, false, cond, List, [], ◌∷◌, map, get_or, nat_le, slice_index_or, refl, Float}
use Rattle.std.proofs.Common.{ap, arith, leb-true}
use Rattle.std.specs.Float.{nan, binary64}
use Rattle.ieee.specs.Constants.{plus_zero}
use Rattle.ieee.specs.Sums.{total}
use Rattle.lists.specs.Lists.{up_to, select}
use Rattle.correlation.specs.Correlation.{starts, window_sum}
use Rattle.correlation.specs.Inner.{entry, gap, gaps}

map_select : (f g : ℕ → Float) (t : ℕ → Bool) (xs : List ℕ) → ((a : ℕ) → t a ≡ true → f a ≡ g a) → map f (select t xs) ≡ map g (select t xs)
map_select f g t [] h = refl
map_select f g t (x ∷ xs) h = by (t x) (h x) (map_select f g t xs h)
  where
    by : (b : Bool) → (b ≡ true → f x ≡ g x) → map f (select t xs) ≡ map g (select t xs)
        → map f (cond b (x ∷ select t xs) (select t xs)) ≡ map g (cond b (x ∷ select t xs) (select t xs))
    by true q r = rw (q refl, r)
    by false q r = r

-- sums that hold a list give its window sums: each start's guard ends within it
pub sum_by : (slot : ℕ → ℕ) (sums ps : List Float) (p ng len d : ℕ) → ((i : ℕ) → i ≤ len → entry slot sums i ≡ slice_index_or ps i nan)
    → gaps slot sums ng (plus_zero binary64) (starts p ng len d) ≡ window_sum ps ng (starts p ng len d)
unfolding starts window_sum
sum_by slot sums ps p ng len d h =
    ap (total binary64 (plus_zero binary64))
    (map_select (gap (entry slot sums) ng) (gap (λ i. get_or ps i nan) ng) (λ a. nat_le (a + ng) len) (up_to (λ s. d + s * p) ((len - ng) / p)) (λ a t.
    let l : a + ng ≤ len = leb-true (a + ng) len t in
    rw (h (a + ng) l, h a (omega arith))))
