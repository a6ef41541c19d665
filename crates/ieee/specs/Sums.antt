-- Long sums: a list added up from the left, and the list of its prefix sums. Under a gain they keep the factor as long as the level of the
-- whole sum is roomy; a sum that starts at +0.0 never becomes -0.0; and a sum of values without a minus sign has none.
-- Assumes nothing.
use Rattle.std.specs.Prelude.{false, List, [], ◌∷◌, map, ◌++◌, ◌≡◌, refl, ℕ, suc, ◌+◌, ◌≤◌, T, length, Float}
use Rattle.std.proofs.Common.{arith}
use Rattle.std.specs.Float.{Format}
use Rattle.std.specs.Float.Ieee.{add, fits}
use Rattle.std.specs.Float.Ieee.Fits.{add-fits}
use Rattle.ieee.specs.Signs.{negative, plus_sign}
use Rattle.ieee.specs.Zeros.{canon, plus_alike, plus_plain}
use Rattle.ieee.specs.Levels.{Level, Scaled, roomy, many}
use Rattle.ieee.specs.Gain.{roomy_fewer, plus_scaled, one_scaled, more_scaled}

-- s and then each of the list, added from the left, each sum rounded once
unfoldable pub total : Format → Float → List Float → Float
total f s [] = s
total f s (x ∷ xs) = total f (add f s x) xs

-- a sum goes on where it stopped
pub total_append : (f : Format) (s : Float) (xs ys : List Float) → total f s (xs ++ ys) ≡ total f (total f s xs) ys
unfolding total
total_append f s [] ys = refl
total_append f s (x ∷ xs) ys = total_append f (add f s x) xs ys

-- the sums on the way, the first of them s
unfoldable pub prefixes : Format → Float → List Float → List Float
prefixes f s [] = s ∷ []
prefixes f s (x ∷ xs) = s ∷ prefixes f (add f s x) xs

-- two lists, value for value
unfoldable pub Each : {A : Type 0} → (A → A → Type 0) → List A → List A → Type 0
Each R [] [] = Unit
Each R [] (y ∷ ys) = ⊥
Each R (x ∷ xs) [] = ⊥
Each R (x ∷ xs) (y ∷ ys) = R x y × Each R xs ys

-- a function that takes one relation to another does so value for value
pub each_map : {A B : Type 0} (R : A → A → Type 0) (S : B → B → Type 0) (g : A → B) → ((x y : A) → R x y → S (g x) (g y)) → (xs ys : List A)
    → Each R xs ys → Each S (map g xs) (map g ys)
unfolding Each
each_map R S g h [] [] e = tt
each_map R S g h [] (y ∷ ys) e = absurd e
each_map R S g h (x ∷ xs) [] e = absurd e
each_map R S g h (x ∷ xs) (y ∷ ys) e = (h x y e.0, each_map R S g h xs ys e.1)

-- and what is equal value for value is equal
pub each_equal : {A : Type 0} (xs ys : List A) → Each (λ x y. x ≡ y) xs ys → xs ≡ ys
unfolding Each
each_equal [] [] e = refl
each_equal [] (y ∷ ys) e = absurd e
each_equal (x ∷ xs) [] e = absurd e
each_equal (x ∷ xs) (y ∷ ys) e = λ i. e.0 i ∷ each_equal xs ys e.1 i

-- ---- one more term, with a others to come
so_far : (m a n : ℕ) → m + a ≤ n → m ≤ n
so_far m a n h = omega arith

further : (m a n : ℕ) → m + suc a ≤ n → m + 1 + a ≤ n
further m a n h = omega arith

next : (f : Format) (top k m n a : ℕ) (l : Level) (s t x y : Float) → k ≤ top → T (roomy f top (many n l)) → m + suc a ≤ n
    → Scaled (many m l) k s t → Scaled l k x y → Scaled (many (m + 1) l) k (add f s x) (add f t y)
next f top k m n a l s t x y K R N h g =
    plus_scaled f top k m 1 l s t x y K (roomy_fewer f top (m + 1) n l (so_far (m + 1) a n (further m a n N)) R) h (one_scaled k l x y g)

-- ---- the sum, and the sums on the way
pub total_scaled : (f : Format) (top k m n : ℕ) (l : Level) (s t : Float) (xs ys : List Float) → k ≤ top → T (roomy f top (many n l)) → m + length xs ≤ n
    → Scaled (many m l) k s t → Each (Scaled l k) xs ys → Scaled (many n l) k (total f s xs) (total f t ys)
unfolding total Each
total_scaled f top k m n l s t [] [] K R N h g = more_scaled k m n l s t (so_far m 0 n N) h
total_scaled f top k m n l s t [] (y ∷ ys) K R N h g = absurd g
total_scaled f top k m n l s t (x ∷ xs) [] K R N h g = absurd g
total_scaled f top k m n l s t (x ∷ xs) (y ∷ ys) K R N h g =
    total_scaled f top k (m + 1) n l (add f s x) (add f t y) xs ys K R (further m (length xs) n N)
    (next f top k m n (length xs) l s t x y K R N h g.0) g.1

pub prefixes_scaled : (f : Format) (top k m n : ℕ) (l : Level) (s t : Float) (xs ys : List Float) → k ≤ top → T (roomy f top (many n l)) → m + length xs ≤ n
    → Scaled (many m l) k s t → Each (Scaled l k) xs ys → Each (Scaled (many n l) k) (prefixes f s xs) (prefixes f t ys)
unfolding prefixes Each
prefixes_scaled f top k m n l s t [] [] K R N h g = (more_scaled k m n l s t (so_far m 0 n N) h, tt)
prefixes_scaled f top k m n l s t [] (y ∷ ys) K R N h g = absurd g
prefixes_scaled f top k m n l s t (x ∷ xs) [] K R N h g = absurd g
prefixes_scaled f top k m n l s t (x ∷ xs) (y ∷ ys) K R N h g = (
  more_scaled k m n l s t (so_far m (suc (length xs)) n N) h,
  prefixes_scaled f top k (m + 1) n l (add f s x) (add f t y) xs ys K R (further m (length xs) n N)
      (next f top k m n (length xs) l s t x y K R N h g.0) g.1,
)

-- ---- the sign of a zero in a sum
pub total_alike : (f : Format) (s t : Float) (xs ys : List Float) → canon s ≡ canon t → Each (λ x y. canon x ≡ canon y) xs ys
    → canon (total f s xs) ≡ canon (total f t ys)
unfolding total Each
total_alike f s t [] [] h g = h
total_alike f s t [] (y ∷ ys) h g = absurd g
total_alike f s t (x ∷ xs) [] h g = absurd g
total_alike f s t (x ∷ xs) (y ∷ ys) h g = total_alike f (add f s x) (add f t y) xs ys (plus_alike f s t x y h g.0) g.1

-- each of the list is a value of the format
unfoldable pub Held : Format → List Float → Type 0
Held f [] = Unit
Held f (x ∷ xs) = T (fits f x) × Held f xs

-- an accumulator that starts at +0.0, or anywhere but at -0.0, never becomes -0.0
pub total_plain : (f : Format) (s : Float) (xs : List Float) → T (fits f s) → canon s ≡ s → Held f xs → canon (total f s xs) ≡ total f s xs
unfolding total Held
total_plain f s [] p h g = h
total_plain f s (x ∷ xs) p h g = total_plain f (add f s x) xs (add-fits f s x) (plus_plain f s x p g.0 h) g.1

-- ---- no minus sign
pub total_sign : {A : Type 0} (f : Format) (s : Float) (g : A → Float) (xs : List A) → negative s ≡ false → ((x : A) → negative (g x) ≡ false)
    → negative (total f s (map g xs)) ≡ false
unfolding total
total_sign f s g [] p h = p
total_sign f s g (x ∷ xs) p h = total_sign f (add f s (g x)) g xs (plus_sign f s (g x) p (h x)) h
