-- `angle::ends_at` meets its contract: the array is the table, and the end of it once more.
-- Assumes nothing.
use mathlib.Core.List.{List, [], ◌∷◌, ◌++◌}
use mathlib.Core.Path.{◌≡◌, refl, ◌∙◌}
use Prim.Native.Nat.{ℕ, zero, suc, ◌+◌, ◌≤◌}
use native.Mathlib.Nat.{le_of_suc-le-suc, not-suc-le-zero}
use native.Mathlib.Omega.{arith}
use lib.ListN.{get_or, length}
use Rattle.angle.specs.Arctangents.{arctangents, entry_at}
use Rattle.angle.proofs.ends_at.Goals as goal

with_end : (xs : List ℕ) (end i : ℕ) → i ≤ length xs → get_or (xs ++ (end ∷ [])) i 0 ≡ get_or xs i end
with_end [] end zero h = refl
with_end [] end (suc i) h = absurd (not-suc-le-zero h)
with_end (x ∷ xs) end zero h = refl
with_end (x ∷ xs) end (suc i) h = with_end xs end i (le_of_suc-le-suc h)

read : (i : ℕ) → i ≤ 65 → get_or (arctangents ++ (32768 ∷ [])) i 0 ≡ entry_at i
unfolding arctangents
read i h = with_end arctangents 32768 i h

pub returns : goal.returns
unfolding arctangents
returns c =
    let i = c.args.i in
    (c.from.ensures ∙ read i (omega arith), c.from-2.ensures ∙ read (i + 1) (omega arith))
