-- Long sums of pairs: each part is the long sum of the parts, so what holds of those (`Rattle.ieee.specs.Sums`) holds of it.
-- Assumes nothing.
use Rattle.std.specs.Prelude.{◌≡◌, ℕ, ◌+◌, ◌≤◌, T, List, [], ◌∷◌, ◌++◌, map, length, refl, Float}
use Rattle.std.proofs.lemmas.List.{length-map}
use Rattle.std.specs.Float.{Format}
use Rattle.ieee.specs.Levels.{Level, Scaled, roomy, many}
use Rattle.ieee.specs.Sums.{total, Each, each_map, total_scaled}
use Rattle.complex.specs.Complex.{Pair, pair, plus}
use Rattle.complex.specs.Gains.{BothScaled}

-- s and then each of the list, added from the left
unfoldable pub totals : Format → Pair → List Pair → Pair
totals f s [] = s
totals f s (x ∷ xs) = totals f (plus f s x) xs

-- a sum goes on where it stopped
pub totals_append : (f : Format) (s : Pair) (xs ys : List Pair) → totals f s (xs ++ ys) ≡ totals f (totals f s xs) ys
unfolding totals
totals_append f s [] ys = refl
totals_append f s (x ∷ xs) ys = totals_append f (plus f s x) xs ys

abbrev pub reals : List Pair → List Float
reals xs = map (λ (x : Pair). x.re) xs

abbrev pub imaginaries : List Pair → List Float
imaginaries xs = map (λ (x : Pair). x.im) xs

pub totals_parts : (f : Format) (s : Pair) (xs : List Pair) → totals f s xs ≡ pair (total f s.re (reals xs)) (total f s.im (imaginaries xs))
unfolding totals total
totals_parts f s [] = refl
totals_parts f s (x ∷ xs) = totals_parts f (plus f s x) xs

pub totals_scaled : (f : Format) (top k m n : ℕ) (l : Level) (s t : Pair) (xs ys : List Pair) → k ≤ top → T (roomy f top (many n l)) → m + length xs ≤ n
    → BothScaled (many m l) k s t → Each (BothScaled l k) xs ys → BothScaled (many n l) k (totals f s xs) (totals f t ys)
totals_scaled f top k m n l s t xs ys K R N h g =
    let part : (p : Pair → Float) → ((x y : Pair) → BothScaled l k x y → Scaled l k (p x) (p y)) → (a b : Float) → Scaled (many m l) k a b
    → Scaled (many n l) k (total f a (map p xs)) (total f b (map p ys)) =
    λ p q a b c. total_scaled f top k m n l a b (map p xs) (map p ys) K R (rw length-map N) c (each_map (BothScaled l k) (Scaled l k) p q xs ys g) in
    rw (totals_parts f s xs, totals_parts f t ys)
    (record { re = part (λ (x : Pair). x.re) (λ x y b. b.re) _ _ h.re; im = part (λ (x : Pair). x.im) (λ x y b. b.im) _ _ h.im })
