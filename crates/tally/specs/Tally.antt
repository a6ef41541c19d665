-- What a tally counts: entries that were compared, and those of them that are not the same on both sides.
-- Definitions only.
use Rattle.std.specs.Prelude.{ℕ, zero, suc, ◌+◌, Bool, cond, ◌≡◌, min, List, ◌++◌, codes, decimal}
use Rattle.tally.specs.declared.Tally.{Tally}

-- a count stays at the largest number that it holds
abbrev pub capped : ℕ → ℕ
capped n = min n 18446744073709551615

-- r is t with so many entries and differences more
pub record Counted (t : Tally) (entries differences : ℕ) (r : Tally) : Type 0 where
  pub compared : r.compared ≡ capped (t.compared + entries)
  pub differ : r.differ ≡ capped (t.differ + differences)

-- how many of n entries are not the same
unfoldable pub unlike : (ℕ → Bool) → ℕ → ℕ
unlike same zero = 0
unlike same (suc n) = unlike same n + cond (same n) 0 1

-- as `39 compared, 0 differ`
abbrev pub tally_text : Tally → List ℕ
tally_text t = decimal t.compared ++ codes " compared, " ++ decimal t.differ ++ codes " differ"
