-- The table of seeds is the whole roots of 64 to 255, as the definition computes them.
-- Assumes nothing.
use mathlib.Core.List.{List, [], ◌∷◌}
use mathlib.Core.Path.{◌≡◌, ap, sym, ◌∙◌, subst}
use Prim.Native.Nat.{ℕ, zero, suc, ◌+◌, ◌-◌, ◌*◌, ◌≤◌, ◌<◌}
use native.Mathlib.Nat.{le_of_suc-le-suc, not-suc-le-zero, add-zero, add-mul, mul-add, lt_of_le_of_lt}
use native.Mathlib.Omega.{arith}
use lib.ListN.{get_or}
use Rattle.root.specs.Root.{whole_root}
use Rattle.root.specs.WholeRoot.{IsRoot, whole_root_lem, square_back}

-- the whole roots of n numbers from t on
abbrev pub row : ℕ → ℕ → List ℕ
row t zero = []
row t (suc n) = whole_root t ∷ row (suc t) n

row_at : (t n j : ℕ) → j < n → get_or (row t n) j 0 ≡ whole_root (t + j)
row_at t zero j h = absurd (not-suc-le-zero h)
row_at t (suc n) zero h = ap whole_root (sym (add-zero t))
row_at t (suc n) (suc j) h = row_at (suc t) n j (le_of_suc-le-suc h) ∙ ap whole_root (next t j)
  where
    next : (t j : ℕ) → suc t + j ≡ t + suc j
    next t j = omega arith

abbrev Seed : ℕ → ℕ → Type 0
Seed t s = (s * s ≤ t) × (t ≤ s * s + 2 * s) × (8 ≤ s) × (s < 16)

whole_seed : (t : ℕ) → 64 ≤ t → t < 256 → Seed t (whole_root t)
whole_seed t lo hi = go (whole_root t) (whole_root_lem t)
  where
    go : (s : ℕ) → IsRoot t s → Seed t s
    go s h =
        let a : 8 < s + 1 = square_back 8 (s + 1) (lt_of_le_of_lt lo h.high) in
        (h.low, next s h.high, omega arith, square_back s 16 (lt_of_le_of_lt h.low hi))
      where
        next : (s : ℕ) → t < (s + 1) * (s + 1) → t ≤ s * s + 2 * s
        next s h = let e : (s + 1) * (s + 1) ≡ s * s + s + s + 1 = rw (add-mul, mul-add) (omega arith) in omega arith

pub seeded : (t : ℕ) → 64 ≤ t → t < 256 → Seed t (get_or (row 64 192) (t - 64) 0)
seeded t lo hi = subst (λ (s : ℕ). Seed t s) (sym (row_at 64 192 (t - 64) (inside t hi) ∙ ap whole_root (whole t lo))) (whole_seed t lo hi)
  where
    inside : (t : ℕ) → t < 256 → t - 64 < 192
    inside t h = omega arith

    whole : (t : ℕ) → 64 ≤ t → 64 + (t - 64) ≡ t
    whole t h = omega arith
