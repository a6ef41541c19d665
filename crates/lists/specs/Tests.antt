-- Tests that antt computes over a table or a range of numbers, and the laws that turn a passed test into its rule at each entry.
-- Assumes nothing.
use Rattle.std.specs.Prelude.{ℕ, zero, suc, ◌+◌, ◌≤◌, ◌<◌, Bool, true, false, cond, ◌&&◌, ◌||◌, List, [], ◌∷◌, ◌≡◌, refl, eqb, length, get_or, drop}
use Rattle.std.specs.List.{list_all}
use Rattle.std.proofs.Common.{sym, ap, ◌∙◌, arith, le_of_suc-le-suc, not-suc-le-zero, add-one, drop_of_length-le, drop-cons}
use Rattle.std.proofs.Math.Decide.{dec_lt}

-- whether x stands in the list
abbrev pub memb : ℕ → List ℕ → Bool
memb x [] = false
memb x (y ∷ ys) = eqb y x || memb x ys

-- whether each number below n passes
abbrev pub all_below : (ℕ → Bool) → ℕ → Bool
all_below f zero = true
all_below f (suc n) = f n && all_below f n

-- how many numbers below n pass
abbrev pub count_below : (ℕ → Bool) → ℕ → ℕ
count_below f zero = 0
count_below f (suc n) = cond (f n) 1 0 + count_below f n

-- whether each entry passes
abbrev pub all_in : (ℕ → Bool) → List ℕ → Bool
all_in f xs = list_all f xs

pub both_left : (a b : Bool) → (a && b) ≡ true → a ≡ true
both_left true b e = refl
both_left false b e = e

pub both_right : (a b : Bool) → (a && b) ≡ true → b ≡ true
both_right true b e = e
both_right false b e = absurd (let z : ◌≡◌ {A = ℕ} 0 1 = cc in omega arith)

pub all_below_at : (f : ℕ → Bool) (n : ℕ) → all_below f n ≡ true → (k : ℕ) → k < n → f k ≡ true
all_below_at f zero e k h = absurd (not-suc-le-zero h)
all_below_at f (suc n) e k h = last (dec_lt k n) (λ l. all_below_at f n (both_right (f n) (all_below f n) e) k l)
  where
    last : Dec (k < n) → (k < n → f k ≡ true) → f k ≡ true
    last (yes l) r = r l
    last (no g) r = let q : k ≡ n = omega arith in rw q (both_left (f n) (all_below f n) e)

pub all_in_at : (f : ℕ → Bool) (xs : List ℕ) → all_in f xs ≡ true → (i : ℕ) → i < length xs → f (get_or xs i 0) ≡ true
all_in_at f [] e i h = absurd (not-suc-le-zero h)
all_in_at f (x ∷ xs) e zero h = both_left (f x) (all_in f xs) e
all_in_at f (x ∷ xs) e (suc i) h = all_in_at f xs (both_right (f x) (all_in f xs) e) i (le_of_suc-le-suc h)

-- the test over a list that a loop walks: one entry stops it, or passes on to the rest
pub all_in_stop : (f : ℕ → Bool) (t : List ℕ) (i : ℕ) → i < length t → f (get_or t i 0) ≡ false → all_in f (drop i t) ≡ false
all_in_stop f t i h e = rw (drop-cons t i 0 h, e)

pub all_in_pass : (f : ℕ → Bool) (t : List ℕ) (i : ℕ) → i < length t → f (get_or t i 0) ≡ true → all_in f (drop i t) ≡ all_in f (drop (i + 1) t)
all_in_pass f t i h e = rw (drop-cons t i 0 h, e, add-one)

-- so the walk that began at `from` and is at i: those passed by are good, and the rest decides
pub record Walked (f : ℕ → Bool) (t : List ℕ) (from i : ℕ) : Type 0 where
  pub inside : i ≤ length t
  pub rest : all_in f (drop from t) ≡ all_in f (drop i t)

module _ (f : ℕ → Bool) (t : List ℕ) (from : ℕ) where
  pub walk_begins : from ≤ length t → Walked f t from from
  walk_begins h = record { inside = h; rest = refl }

  module _ {i : ℕ} (w : Walked f t from i) where
    pub walk_stops : i < length t → f (get_or t i 0) ≡ false → false ≡ all_in f (drop from t)
    walk_stops h e = sym (w.rest ∙ all_in_stop f t i h e)

    pub walk_goes_on : i < length t → f (get_or t i 0) ≡ true → Walked f t from (i + 1)
    walk_goes_on h e = record { inside = omega arith; rest = w.rest ∙ all_in_pass f t i h e }

    pub walk_ends : length t ≤ i → true ≡ all_in f (drop from t)
    walk_ends h = sym (w.rest ∙ ap (all_in f) (drop_of_length-le t h))

-- two functions whose values below n antt finds alike agree at each number below n
abbrev pub values : {A : Type 0} → (ℕ → A) → ℕ → List A
values f zero = []
values f (suc n) = f n ∷ values f n

pub agree : {A : Type 0} (f g : ℕ → A) (n : ℕ) → values f n ≡ values g n → (k : ℕ) → k < n → f k ≡ g k
agree f g zero e k h = absurd (not-suc-le-zero h)
agree f g (suc n) e k h = last (dec_lt k n) (λ l. agree f g n (cc) k l)
  where
    last : Dec (k < n) → (k < n → f k ≡ g k) → f k ≡ g k
    last (yes l) r = r l
    last (no l) r = let q : k ≡ n = omega arith in rw q (cc)
