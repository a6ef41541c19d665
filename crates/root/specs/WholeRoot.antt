-- The whole root of `specs/Root.antt`: its square is at most n, and that of the next number is more, which fixes it. So a root with its
-- remainder, found in any way, is it.
-- Assumes nothing.
use Rattle.std.specs.Prelude.{◌≡◌, Bool, true, false, not, ℕ, zero, suc, ◌+◌, ◌*◌, ◌/◌, ◌^◌, ◌≤◌, ◌<◌, T, leb}
use Rattle.std.proofs.Common.{sym, ap, ◌∙◌, subst, lt_of_lt_of_le, lt_of_le_of_lt, lt_of_not-le, not-le_of_lt, mul-add, add-mul, mul-le-mul}
use Rattle.std.proofs.Common.{le-add_right, arith, leb→le, pow_mono, pow-add}
use Rattle.std.proofs.Math.Dec.{nleb→lt}
use Rattle.std.specs.Float.Ieee.{size}
use Rattle.std.specs.Float.Ieee.Digits.{size-lt}
use Rattle.ieee.specs.Numbers.{four_squares}
use Rattle.root.specs.Root.{more, root_digits, whole_root}

pub record IsRoot (n s : ℕ) : Type 0 where
  pub low : s * s ≤ n
  pub high : n < (s + 1) * (s + 1)

-- a number with a greater square is greater
pub square_back : (a b : ℕ) → a * a < b * b → a < b
square_back a b h = lt_of_not-le (λ (g : b ≤ a). not-le_of_lt h (mul-le-mul g g))

pub only : (n s t : ℕ) → IsRoot n s → IsRoot n t → s ≡ t
only n s t h k =
    let a : s < t + 1 = square_back s (t + 1) (lt_of_le_of_lt h.low k.high) in
    let b : t < s + 1 = square_back t (s + 1) (lt_of_le_of_lt k.low h.high) in
    omega arith

-- by the remainder: the root of s * s + r is s, for r at most 2 * s
pub by_rem : (n s r : ℕ) → s * s + r ≡ n → r ≤ 2 * s → IsRoot n s
by_rem n s r e h = record { low = omega arith; high = rw (add-mul, mul-add) (omega arith) }

pick : (n s : ℕ) (b : Bool) → (T b → (s + 1) * (s + 1) ≤ n) → (T (not b) → n < (s + 1) * (s + 1)) → s * s ≤ n → n < (s + 2) * (s + 2) → IsRoot n (more b s)
pick n s true y z lo hi = record { low = y tt; high = subst (λ (x : ℕ). n < x * x) (next s) hi }
  where
    next : (s : ℕ) → s + 2 ≡ s + 1 + 1
    next s = omega arith
pick n s false y z lo hi = record { low = lo; high = z tt }

digits_root : (d n : ℕ) → n < 2 ^ (d + d) → IsRoot n (root_digits d n)
unfolding root_digits
digits_root zero n h = record { low = omega arith; high = h }
digits_root (suc d) n h =
    let t = root_digits d (n / 4) in
    let p : 2 ^ (suc d + suc d) ≡ 4 * 2 ^ (d + d) = ap (λ (x : ℕ). 2 ^ x) (two_more d) ∙ pow-add 2 2 (d + d) in
    let q : n / 4 < 2 ^ (d + d) = omega arith in
    let ih = digits_root d (n / 4) q in
    let e = four_squares t in
    let f = four_squares (t + 1) in
    let g : 2 * t + 2 ≡ 2 * (t + 1) = omega arith in
    pick n (2 * t) (leb ((2 * t + 1) * (2 * t + 1)) n) (leb→le _ _) (nleb→lt _ _) (omega arith) (subst (λ (x : ℕ). n < x * x) (sym g) (omega arith))
  where
    two_more : (d : ℕ) → suc d + suc d ≡ 2 + (d + d)
    two_more d = omega arith

pub whole_root_lem : (n : ℕ) → IsRoot n (whole_root n)
unfolding whole_root
whole_root_lem n = digits_root (size n) n (lt_of_lt_of_le (size-lt n) (pow_mono (le-add_right (size n) (size n))))

pub whole_root_is : (n s r : ℕ) → s * s + r ≡ n → r ≤ 2 * s → whole_root n ≡ s
whole_root_is n s r e h = only n (whole_root n) s (whole_root_lem n) (by_rem n s r e h)
