-- Numbers as decimal digits, in ASCII.
-- Definitions only.
use Rattle.std.specs.Prelude.{ℕ, ◌+◌, ◌/◌, ◌%◌, cond, List, [], ◌∷◌, ◌++◌, ltb}

-- a number below 10,000 in decimal digits
unfoldable pub decimal : ℕ → List ℕ
decimal n =
    cond (ltb n 10) ((48 + n) ∷ [])
    (cond (ltb n 100) ((48 + n / 10) ∷ (48 + n % 10) ∷ [])
    (cond (ltb n 1000) ((48 + n / 100) ∷ (48 + n / 10 % 10) ∷ (48 + n % 10) ∷ [])
    ((48 + n / 1000) ∷ (48 + n / 100 % 10) ∷ (48 + n / 10 % 10) ∷ (48 + n % 10) ∷ [])))

-- a number and a comma
abbrev pub field : ℕ → List ℕ
field n = decimal n ++ (44 ∷ [])
