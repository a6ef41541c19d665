-- The nearest root of an f64 (document 01, "Floats"): what `root` gives. "Nearest" is a comparison of whole-number squares, and it computes.
-- Nearest has the law in front of the reader: the answer is strictly nearer to the root than any other f64.
-- Definitions only.
use Rattle.std.specs.Prelude.{Bool, true, false, cond, ℕ, zero, suc, ◌+◌, ◌-◌, ◌*◌, ◌/◌, ◌^◌, leb, ltb, Float}
use Rattle.std.specs.Float.{nan, inf, fin, binary64}
use Rattle.std.specs.Float.Ieee.{up, down, size, units}

-- ---- of whole numbers

-- a + 1 where b says so, and a otherwise
abbrev pub more : Bool → ℕ → ℕ
more b a = cond b (a + 1) a

-- The whole part of the root of an n of at most d pairs of binary digits, one digit of the root for each pair.
unfoldable pub root_digits : ℕ → ℕ → ℕ
root_digits zero n = 0
root_digits (suc d) n = let s = 2 * root_digits d (n / 4) in more (leb ((s + 1) * (s + 1)) n) s

-- the largest whole number whose square is at most n
unfoldable pub whole_root : ℕ → ℕ
unfolding root_digits size
whole_root n = root_digits (size n) n

-- ---- of floats

-- How many digits of the whole root of n are dropped, so that the 53 of an f64 are left: the root has half as many digits as n.
abbrev pub root_drop : ℕ → ℕ
root_drop n = (size n + 1) / 2 - 53

-- The whole root in multiples of 2 ^ root_drop. s is it cut; the next multiple is nearer where n lies above the square of the point
-- halfway, (s + 1/2) * 2 ^ root_drop.
abbrev pub root_kept : ℕ → ℕ
root_kept n =
    let k = root_drop n in
    let s = whole_root (n / 2 ^ (k + k)) in
    more (ltb ((2 * s + 1) * (2 * s + 1) * 2 ^ (k + k)) (4 * n)) s

-- the f64 nearest to the root of n, in units of the smallest f64 above zero, 2 ^ -1074
unfoldable pub root_units : ℕ → Float
unfolding whole_root units size
root_units n = units binary64 false (root_kept n) (root_drop n)

-- The f64 nearest to the root of the f64 x. x is n units, so its root is the root of n * 2 ^ 1074 units. A zero keeps its sign, the root of
-- +∞ is itself, and below zero there is none.
unfoldable pub root_of : Float → Float
unfolding root_units
root_of nan = nan
root_of (inf s) = cond s nan (inf false)
root_of (fin s zero e) = fin s zero e
root_of (fin true (suc m) e) = nan
root_of (fin false (suc m) e) = root_units (suc m * up e * 2 ^ 1074 / down e * 2 ^ 1074)
