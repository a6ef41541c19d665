-- A number's digits in the pieces in which they are stored: two at a time.
-- Definitions only.
use Rattle.std.specs.Prelude.{ℕ, ◌+◌, ◌/◌, ◌%◌, cond, List, [], ◌∷◌, ltb}

-- two digits
abbrev pub pair : ℕ → List ℕ
pair n = (48 + n / 10) ∷ (48 + n % 10) ∷ []

-- one digit, or two
abbrev pub few : ℕ → List ℕ
few n = cond (ltb n 10) ((48 + n) ∷ []) (pair n)
