-- What document 02 asks of the angle, for every pair of floats, each exponent and each size: (1, 0) and zeros of either sign give 0, and so does an
-- infinity or a NaN; a quarter turn adds 16384 round the circle; the other sign of the imaginary part changes the sign, except that 32768 stays; a power
-- of two leaves the angle as it is; on axes and diagonals it is exact; and its range.
-- Assumes nothing.
use Rattle.std.specs.Prelude.{Bool, not, ◌&&◌, ◌≡◌, ℕ, zero, suc, ◌+◌, ◌-◌, ◌*◌, ◌%◌, ◌<◌, T, eqb, ℤ, pos, negsuc, ◌+ℤ◌, Float}
use Rattle.std.proofs.Math.Bool.{true, false, cond}
use Rattle.std.proofs.Math.Path.{refl, ap}
use Rattle.std.proofs.Common.{sym, ◌∙◌, zero-mul, mul-pos, arith, eqb→eq, SFits, to_z, of_z}
use Rattle.std.specs.Float.{nan, inf, fin}
use Rattle.std.specs.Float.Ieee.{up, down, neg}
use Rattle.std.specs.Float.Ieee.Exact.{HasValue}
use Rattle.std.specs.Float.Ieee.Fits.{up_pos, down_pos}
use Rattle.std.specs.Int.{w32}
use Rattle.std.proofs.lemmas.Int.{to_z-of_z}
use Rattle.ieee.specs.Times.{Times, by_values, same_times}
use Rattle.complex.specs.Complex.{Pair, pair, conjugate}
use Rattle.complex.specs.Changes.{turned}
use Rattle.angle.specs.Angle.{around, size_beside, circle_of, signed, angle_of, AngleRange, round_circle, mirrored, finite, is_zero}
use Rattle.angle.specs.Circle.{around_most, around_turn, around_mirror, around_scale, around_none, around_real, around_imaginary, around_diagonal}
use Rattle.angle.specs.Circle.{signed_range, signed_turn, signed_mirror}

-- ---- the range
pub circle_most : (re im : Float) → circle_of re im < 65536
unfolding circle_of
circle_most nan im = omega arith
circle_most (inf s) im = omega arith
circle_most (fin s m e) nan = omega arith
circle_most (fin s m e) (inf t) = omega arith
circle_most (fin s m e) (fin t n d) = around_most s (size_beside d m e) t (size_beside e n d)

pub angle_range : (p : Pair) → AngleRange (angle_of p)
unfolding angle_of
angle_range p = signed_range (circle_of p.re p.im) (circle_most p.re p.im)

-- so nothing of it is lost in an i32
angle_fits : (p : Pair) → SFits w32 (angle_of p)
angle_fits p = by (angle_of p) (angle_range p)
  where
    by : (z : ℤ) → AngleRange z → SFits w32 z
    by (pos n) h = record { sfits = omega arith }
    by (negsuc n) h = record { sfits = omega arith }

pub angle_back : (p : Pair) (r : ℤ) → r ≡ angle_of p → to_z w32 (of_z w32 r) ≡ angle_of p
angle_back p r e = ap (λ (z : ℤ). to_z w32 (of_z w32 z)) e ∙ to_z-of_z w32 (angle_of p) (angle_fits p)

-- ---- not finite
pub not_finite_circle : (re im : Float) → T (not (finite re && finite im)) → circle_of re im ≡ 0
unfolding circle_of
not_finite_circle nan im h = refl
not_finite_circle (inf s) im h = refl
not_finite_circle (fin s m e) nan h = refl
not_finite_circle (fin s m e) (inf t) h = refl
not_finite_circle (fin s m e) (fin t n d) h = absurd h

pub not_finite_angle : (p : Pair) → T (not (finite p.re && finite p.im)) → angle_of p ≡ pos 0
unfolding angle_of
not_finite_angle p h = ap signed (not_finite_circle p.re p.im h)

-- ---- zeros, whatever their signs and exponents
no_size : (d e : ℤ) → size_beside d 0 e ≡ 0
no_size d e = ap (λ (z : ℕ). z * down d) (zero-mul (up e)) ∙ zero-mul (down d)

zeros_circle : (re im : Float) → T (is_zero re && is_zero im) → circle_of re im ≡ 0
unfolding circle_of
zeros_circle nan im h = absurd h
zeros_circle (inf s) im h = absurd h
zeros_circle (fin s m e) nan h = refl
zeros_circle (fin s m e) (inf t) h = refl
zeros_circle (fin s m e) (fin t n d) h =
    let z = both (eqb m 0) (eqb n 0) h in
    (λ i. around s (size_beside d (eqb→eq m 0 z.0 i) e) t (size_beside e (eqb→eq n 0 z.1 i) d))
    ∙ (λ i. around s (no_size d e i) t (no_size e d i))
    ∙ around_none s t
  where
    both : (a b : Bool) → T (a && b) → T a × T b
    both true true t = (tt, tt)
    both true false t = absurd t
    both false b t = absurd t

pub zeros_angle : (p : Pair) → T (is_zero p.re && is_zero p.im) → angle_of p ≡ pos 0
unfolding angle_of
zeros_angle p h = ap signed (zeros_circle p.re p.im h)

-- ---- a quarter turn of a finite pair that is not zero
size_pos : (d e : ℤ) (m : ℕ) → 0 < m → 0 < size_beside d m e
size_pos d e m h = mul-pos (mul-pos h (up_pos e)) (down_pos d)

turned_circle : (re im : Float) → T (finite re && finite im) → T (not (is_zero re && is_zero im)) → circle_of (neg im) re ≡ (circle_of re im + 16384) % 65536
unfolding circle_of neg
turned_circle nan im h k = absurd h
turned_circle (inf s) im h k = absurd h
turned_circle (fin s m e) nan h k = absurd h
turned_circle (fin s m e) (inf t) h k = absurd h
turned_circle (fin s zero e) (fin t zero d) h k = absurd k
turned_circle (fin s (suc m) e) (fin t n d) h k =
    around_turn s t (size_beside d (suc m) e) (size_beside e n d) (omega (arith, size_pos d e (suc m) (omega arith)))
turned_circle (fin s zero e) (fin t (suc n) d) h k =
    around_turn s t (size_beside d zero e) (size_beside e (suc n) d) (omega (arith, size_pos e d (suc n) (omega arith)))

pub turned_angle : (p : Pair) → T (finite p.re && finite p.im) → T (not (is_zero p.re && is_zero p.im))
    → angle_of (turned p) ≡ round_circle (angle_of p +ℤ pos 16384)
unfolding angle_of
turned_angle p h k = ap signed (turned_circle p.re p.im h k) ∙ signed_turn (circle_of p.re p.im) (circle_most p.re p.im)

-- ---- the other sign of the imaginary part
conjugate_circle : (re im : Float) → circle_of re (neg im) ≡ (65536 - circle_of re im) % 65536
unfolding circle_of neg
conjugate_circle nan im = refl
conjugate_circle (inf s) im = refl
conjugate_circle (fin s m e) nan = refl
conjugate_circle (fin s m e) (inf t) = refl
conjugate_circle (fin s m e) (fin t n d) = around_mirror s t (size_beside d m e) (size_beside e n d)

pub conjugate_angle : (p : Pair) → angle_of (conjugate p) ≡ mirrored (angle_of p)
unfolding angle_of
conjugate_angle p = ap signed (conjugate_circle p.re p.im) ∙ signed_mirror (circle_of p.re p.im) (circle_most p.re p.im)

-- ---- by values: the angle of ±a / c and ±b / d is that of ±a * d and ±b * c, and a common power of two makes no difference
circle_is : (s : Bool) (m : ℕ) (e : ℤ) (t : Bool) (n : ℕ) (d : ℤ) → circle_of (fin s m e) (fin t n d) ≡ around s (m * up e * down d) t (n * up d * down e)
unfolding circle_of
circle_is s m e t n d = refl

pub circle_of_values : (re im : Float) (s t : Bool) (a c b d : ℕ) → 0 < c → 0 < d → HasValue re s a c → HasValue im t b d
    → circle_of re im ≡ around s (a * d) t (b * c)
circle_of_values = by_values circle_of around circle_is (λ s t a b c C. around_scale s a t b c C)

pub times_angle : (k : ℕ) (p q : Pair) → Times k p.re q.re → Times k p.im q.im → angle_of q ≡ angle_of p
unfolding angle_of
times_angle k p q g h =
    ap signed (sym (same_times circle_of around circle_is (λ s t a b c C. around_scale s a t b c C) k p.re q.re p.im q.im g h))

-- ---- axes and diagonals, and so (1, 0)
module _ (s t : Bool) (m : ℕ) (e d : ℤ) (h : 0 < m) where
  pub real_axis : angle_of (pair (fin s m e) (fin t 0 d)) ≡ cond s (pos 32768) (pos 0)
  unfolding angle_of circle_of
  real_axis =
      ap signed (ap (around s (size_beside d m e) t) (no_size e d) ∙ around_real s t (size_beside d m e) (size_pos d e m h)) ∙ by s
    where
      by : (s : Bool) → signed (cond s 32768 0) ≡ cond s (pos 32768) (pos 0)
      by true = refl
      by false = refl

  pub imaginary_axis : angle_of (pair (fin t 0 d) (fin s m e)) ≡ cond s (negsuc 16383) (pos 16384)
  unfolding angle_of circle_of
  imaginary_axis =
      ap signed
      (ap (λ (a : ℕ). around t a s (size_beside d m e)) (no_size e d) ∙ around_imaginary t s (size_beside d m e) (size_pos d e m h)) ∙ by s
    where
      by : (s : Bool) → signed (cond s 49152 16384) ≡ cond s (negsuc 16383) (pos 16384)
      by true = refl
      by false = refl

  pub diagonal : angle_of (pair (fin s m e) (fin t m e)) ≡ cond t (cond s (negsuc 24575) (negsuc 8191)) (cond s (pos 24576) (pos 8192))
  unfolding angle_of circle_of
  diagonal = ap signed (around_diagonal s t (size_beside e m e) (size_pos e e m h)) ∙ by s t
    where
      by : (s t : Bool)
          → signed (cond t (cond s 40960 57344) (cond s 24576 8192)) ≡ cond t (cond s (negsuc 24575) (negsuc 8191)) (cond s (pos 24576) (pos 8192))
      by true true = refl
      by true false = refl
      by false true = refl
      by false false = refl

pub one_angle : (t : Bool) → angle_of (pair (fin false 1 (pos 0)) (fin t 0 (pos 0))) ≡ pos 0
one_angle t = real_axis false t 1 (pos 0) (pos 0) (omega arith)
