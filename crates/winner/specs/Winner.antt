-- The winner of four counts of votes (acquire.rs, `detect_sp_phase`; document 01, "The pilot phase"): the phase with the most, its share of the
-- votes and its lead.
-- Definitions only.
use Rattle.std.specs.Prelude.{ℕ, ◌-◌, cond, List, [], ◌∷◌, eqb, leb, ltb, pos, get_or, Float}
use Rattle.std.specs.Float.{binary32}
use Rattle.std.specs.Float.Ieee.{div, of_int}
use Rattle.lists.specs.Lists.{up_to}

-- ---- the phase with the most votes, the larger on a tie; its share; the lead over the next
abbrev pub better : List ℕ → ℕ → ℕ → ℕ
better counts a b = cond (leb (get_or counts a 0) (get_or counts b 0)) b a

unfoldable pub won_by : List ℕ → ℕ
won_by counts = better counts (better counts (better counts 0 1) 2) 3

unfoldable pub share_of : ℕ → ℕ → Float
share_of n total = div binary32 (of_int binary32 (pos n)) (of_int binary32 (pos (cond (eqb total 0) 1 total)))

abbrev pub larger : ℕ → ℕ → ℕ
larger x m = cond (ltb m x) x m

abbrev pub largest : List ℕ → ℕ
largest [] = 0
largest (x ∷ xs) = larger x (largest xs)

-- the four counts with 0 for that of phase p; the largest of the other three
abbrev pub others : List ℕ → ℕ → List ℕ
others counts p = up_to (λ q. cond (eqb q p) 0 (get_or counts q 0)) 4

unfoldable pub next_to : List ℕ → ℕ → ℕ
next_to counts p = largest (others counts p)

unfoldable pub lead_of : List ℕ → ℕ
lead_of counts = get_or counts (won_by counts) 0 - next_to counts (won_by counts)
