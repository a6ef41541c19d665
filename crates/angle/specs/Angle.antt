-- The angle of a pair of f64 numbers (document 02, Ask 5), in units of 1/65536 of a turn: a whole number above -32768 and at most 32768, from whole
-- numbers and the table of arctangents. docs/ANGLE.md says how far from the true angle it can be, and why.
-- Definitions only.
use Rattle.std.specs.Prelude.{Bool, true, false, cond, ℕ, ◌+◌, ◌-◌, ◌*◌, ◌/◌, ◌%◌, ◌≤◌, ◌<◌, leb, eqb, ℤ, pos, negsuc, neg_ℤ, ◌-ℤ◌, Float}
use Rattle.std.specs.Float.{nan, inf, fin}
use Rattle.std.specs.Float.Ieee.{up, down}
use Rattle.complex.specs.Complex.{Pair}
use Rattle.angle.specs.Arctangents.{entry_at}

-- ---- of whole numbers: a pair (±a, ±b) in any unit

-- b / a in 2 ^ -22, cut: 4194304 is 2 ^ 22
abbrev pub slope : ℕ → ℕ → ℕ
slope a b = b * 4194304 / a

-- from lo to hi, f / 65536 of the way, in 1/65536
abbrev pub mixed : ℕ → ℕ → ℕ → ℕ
mixed lo hi f = lo * (65536 - f) + hi * f

-- the angle of a slope of q / 2 ^ 22, which is at most 1: between two neighbours of the table, which are quarters of a unit, and rounded to units
unfoldable pub octant : ℕ → ℕ
octant q = (mixed (entry_at (q / 65536)) (entry_at (q / 65536 + 1)) (q % 65536) + 131072) / 262144

-- the angle of (a, b): up to the diagonal by its slope, and above it by that of (b, a), mirrored in the diagonal
unfoldable pub quarter : ℕ → ℕ → ℕ
quarter a b = cond (leb b a) (octant (slope a b)) (16384 - octant (slope b a))

-- mirrored in an axis, where a part has a minus: in the imaginary axis it becomes half a turn less it, in the real axis a whole turn less it
abbrev pub mirror : Bool → ℕ → ℕ → ℕ
mirror minus turn h = cond minus ((turn - h) % 65536) h

-- round the circle, from 0 to 65535: the angle of (±a, ±b), with a minus where s and where t. Two zeros have 0
unfoldable pub around : Bool → ℕ → Bool → ℕ → ℕ
around s a t b = cond (eqb (a + b) 0) 0 (mirror t 65536 (mirror s 32768 (quarter a b)))

-- ---- of floats

-- m * 2 ^ e and n * 2 ^ d, both times the same number, which makes whole numbers of them
abbrev pub size_beside : ℤ → ℕ → ℤ → ℕ
size_beside d m e = m * up e * down d

-- a pair with an infinity or a NaN has 0
unfoldable pub circle_of : Float → Float → ℕ
circle_of nan im = 0
circle_of (inf s) im = 0
circle_of (fin s m e) nan = 0
circle_of (fin s m e) (inf t) = 0
circle_of (fin s m e) (fin t n d) = around s (size_beside d m e) t (size_beside e n d)

-- half a turn and less stays, more is a turn less
abbrev pub signed : ℕ → ℤ
signed c = cond (leb c 32768) (pos c) (pos c -ℤ pos 65536)

unfoldable pub angle_of : Pair → ℤ
angle_of p = signed (circle_of p.re p.im)

-- ---- the words of the laws

-- above -32768, at most 32768
abbrev pub AngleRange : ℤ → Type 0
AngleRange (pos n) = n ≤ 32768
AngleRange (negsuc n) = n < 32767

-- round the circle: above half a turn it is a turn less
abbrev pub round_circle : ℤ → ℤ
round_circle (pos n) = signed n
round_circle (negsuc n) = negsuc n

-- the other sign, but half a turn stays
abbrev pub mirrored : ℤ → ℤ
mirrored (pos n) = cond (eqb n 32768) (pos n) (neg_ℤ (pos n))
mirrored (negsuc n) = neg_ℤ (negsuc n)

abbrev pub finite : Float → Bool
finite nan = false
finite (inf s) = false
finite (fin s m e) = true

-- a zero, of either sign
abbrev pub is_zero : Float → Bool
is_zero nan = false
is_zero (inf s) = false
is_zero (fin s m e) = eqb m 0
