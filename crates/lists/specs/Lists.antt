-- Lists that definitions are made of: a function's values in order, parts one behind another, the numbers that pass a test.
-- Definitions only.
use Rattle.std.specs.Prelude.{ℕ, zero, suc, ◌<◌, Bool, cond, List, [], ◌∷◌, ◌++◌, length, get_or}

-- f at 0, 1, .. n - 1
abbrev pub up_to : {A : Type 0} → (ℕ → A) → ℕ → List A
up_to f zero = []
up_to f (suc n) = up_to f n ++ (f n ∷ [])

-- 0, 1, .. n - 1
abbrev pub range : ℕ → List ℕ
range n = up_to (λ k. k) n

-- each number of a list is below n
abbrev pub Inside : List ℕ → ℕ → Type 0
Inside xs n = (i : ℕ) → i < length xs → get_or xs i 0 < n

-- the list of each, one behind another
abbrev pub joined : {A : Type 0} → (A → List ℕ) → List A → List ℕ
joined f [] = []
joined f (x ∷ xs) = f x ++ joined f xs

-- the numbers that pass, in their order
abbrev pub select : (ℕ → Bool) → List ℕ → List ℕ
select p [] = []
select p (x ∷ xs) = cond (p x) (x ∷ select p xs) (select p xs)

-- of entries that stand at k, k + 1, ..: where those stand that pass
abbrev pub chosen : (ℕ → Bool) → ℕ → List ℕ → List ℕ
chosen p k [] = []
chosen p k (x ∷ xs) = cond (p x) (k ∷ chosen p (suc k) xs) (chosen p (suc k) xs)
