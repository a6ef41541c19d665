-- The ratio reads every pair of neighbouring spectra: the products are as many as the neighbours, and each is of its own two.
-- Assumes nothing.
use Rattle.std.specs.Prelude.{ℕ, zero, suc, ◌-◌, ◌<◌, List, [], ◌∷◌, ◌≡◌, refl, get_or, length}
use Rattle.std.proofs.Common.{ap, ◌∙◌, le_of_suc-le-suc, not-suc-le-zero, arith}
use Rattle.std.specs.Float.{binary32}
use Rattle.complex.specs.Complex.{Pair, product, conjugate}
use Rattle.ratio.specs.Ratio.{steps_from, steps}

-- ---- after a first pair y
length_from : (y : Pair) (xs : List Pair) → length (steps_from y xs) ≡ length xs
unfolding steps_from
length_from y [] = refl
length_from y (x ∷ xs) = ap suc (length_from x xs)

from_at : (y : Pair) (xs : List Pair) (d : Pair) (i : ℕ) → i < length xs
    → get_or (steps_from y xs) i d ≡ product binary32 (get_or xs i d) (conjugate (get_or (y ∷ xs) i d))
unfolding steps_from
from_at y [] d i h = absurd (not-suc-le-zero h)
from_at y (x ∷ xs) d zero h = refl
from_at y (x ∷ xs) d (suc i) h = from_at x xs d i (le_of_suc-le-suc h)

pub every_step : (xs : List Pair) → length (steps xs) ≡ length xs - 1
unfolding steps
every_step [] = omega arith
every_step (x ∷ xs) = length_from x xs ∙ omega arith

pub step_at_lem : (xs : List Pair) (d : Pair) (i : ℕ) → suc i < length xs
    → get_or (steps xs) i d ≡ product binary32 (get_or xs (suc i) d) (conjugate (get_or xs i d))
unfolding steps
step_at_lem [] d i h = absurd (not-suc-le-zero h)
step_at_lem (x ∷ xs) d i h = from_at x xs d i (le_of_suc-le-suc h)
