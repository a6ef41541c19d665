-- Two values of which one is the other times 2 ^ k, stated by values: x is a / c with a sign, y is a * 2 ^ k / c with the same sign. Where both
-- sides of a quotient or of a comparison carry the same factor, it is the same quotient, bit for bit, and the same answer.
-- Assumes nothing.
use Rattle.std.specs.Prelude.{◌≡◌, refl, Bool, true, false, ◌||◌, cond, ℕ, zero, suc, ◌+◌, ◌*◌, ◌^◌, ◌<◌, ℤ, pos, ltb, eqb, Float}
use Rattle.std.proofs.Common.{sym, ap, ◌∙◌, zero-lt-suc, zero-mul, add-mul, mul_assoc, mul_comm, mul_right_comm, mul-pos, ne_eqb, pow_pos}
use Rattle.std.proofs.Math.Nat.{mul-mul-mul_comm}
use Rattle.std.proofs.Math.Dec.{eqb-suc-zero}
use Rattle.std.specs.Float.{nan, inf, fin, Format}
use Rattle.std.specs.Float.Ieee.{up, down, unlike, round, below, level, div, lt, le}
use Rattle.std.specs.Float.Ieee.Fits.{up_pos, down_pos}
use Rattle.std.specs.Float.Ieee.Exact.{HasValue}
use Rattle.std.specs.Float.Ieee.Scale.{round_same}
use Rattle.ieee.specs.Numbers.{ltb_scale, eqb_scale, zero_scale, no_product}

pub record Times (k : ℕ) (x y : Float) : Type 0 where
  pub sign : Bool
  pub up : ℕ
  pub over : ℕ
  pub some : 0 < over
  pub here : HasValue x sign up over
  pub there : HasValue y sign (up * 2 ^ k) over

-- what carries no factor of its own: a zero, times anything
pub zero_times : (k : ℕ) (s : Bool) → Times k (fin s 0 (pos 0)) (fin s 0 (pos 0))
zero_times k s =
    record {
      sign = s;
      up = 0;
      over = 1;
      some = zero-lt-suc 0;
      here = (refl, refl);
      there = (refl, sym (ap (λ (z : ℕ). z * 1) (zero-mul (2 ^ k))));
    }

-- ---- comparisons of two signed numbers, both multiplied
below_scale : (s t : Bool) (a b c : ℕ) → 0 < c → below s (a * c) t (b * c) ≡ below s a t b
below_scale false false a b c C = ltb_scale a b c C
below_scale false true a b c C = refl
below_scale true false a b c C = (λ i. ltb (sym (zero-mul c) i) (sym (add-mul a b c) i)) ∙ ltb_scale 0 (a + b) c C
below_scale true true a b c C = ltb_scale b a c C

-- ±a ≤ ±b
abbrev pub most : Bool → ℕ → Bool → ℕ → Bool
most s a t b = below s a t b || level s a t b

pub most_scale : (s t : Bool) (a b c : ℕ) → 0 < c → most s (a * c) t (b * c) ≡ most s a t b
most_scale s t a b c C = rw (below_scale s t a b c C, eqb_scale a b c C, zero_scale a c C)

-- ---- what is read off two signed numbers, and not changed by a common factor, is read off two values in any way to write them as fractions
-- a / c is x / e: both over a common denominator
common : (x e g a c d : ℕ) → x * c ≡ a * e → x * g * (c * d) ≡ a * d * (e * g)
common x e g a c d h = mul-mul-mul_comm x g c d ∙ (λ i. h i * mul_comm g d i) ∙ mul-mul-mul_comm a e d g

module _ {A : Type 0} (R : Float → Float → A) (P : Bool → ℕ → Bool → ℕ → A)
    (is : (s : Bool) (m : ℕ) (e : ℤ) (t : Bool) (n : ℕ) (d : ℤ) → R (fin s m e) (fin t n d) ≡ P s (m * up e * down d) t (n * up d * down e))
    (scale : (s t : Bool) (a b c : ℕ) → 0 < c → P s (a * c) t (b * c) ≡ P s a t b) where
  pub by_values : (x u : Float) (s t : Bool) (a c b d : ℕ) → 0 < c → 0 < d → HasValue x s a c → HasValue u t b d → R x u ≡ P s (a * d) t (b * c)
  by_values nan u s t a c b d C D h k = absurd h
  by_values (inf z) u s t a c b d C D h k = absurd h
  by_values (fin z m e) nan s t a c b d C D h k = absurd k
  by_values (fin z m e) (inf y) s t a c b d C D h k = absurd k
  by_values (fin z m e) (fin y n g) s t a c b d C D h k =
      let B : n * up g * down e * (c * d) ≡ b * c * (down e * down g) =
      rw (mul_comm c d, mul_comm (down e) (down g)) (common (n * up g) (down g) (down e) b d c k.1) in
      is z m e y n g
      ∙ sym (scale z y (m * up e * down g) (n * up g * down e) (c * d) (mul-pos C D))
      ∙ (λ i. P (h.0 i) (common (m * up e) (down e) (down g) a c d h.1 i) (k.0 i) (B i))
      ∙ scale s t (a * d) (b * c) (down e * down g) (mul-pos (down_pos e) (down_pos g))

  pub same_times : (k : ℕ) (x y u v : Float) → Times k x y → Times k u v → R x u ≡ R y v
  same_times k x y u v h g =
      by_values x u h.sign g.sign h.up h.over g.up g.over h.some g.some h.here g.here
      ∙ sym (scale h.sign g.sign (h.up * g.over) (g.up * h.over) (2 ^ k) (pow_pos k))
      ∙ (λ i. P h.sign (mul_right_comm h.up g.over (2 ^ k) i) g.sign (mul_right_comm g.up h.over (2 ^ k) i))
      ∙ sym (by_values y v h.sign g.sign (h.up * 2 ^ k) h.over (g.up * 2 ^ k) g.over h.some g.some h.there g.there)

-- ---- comparisons
pub lt_times : (k : ℕ) (x y u v : Float) → Times k x y → Times k u v → lt x u ≡ lt y v
lt_times = same_times lt below (λ s m e t n d. unfold lt in refl) below_scale

pub le_times : (k : ℕ) (x y u v : Float) → Times k x y → Times k u v → le x u ≡ le y v
le_times = same_times le most (λ s m e t n d. unfold le in refl) most_scale

-- ---- quotients: for every divisor, a zero too
abbrev over : Format → Bool → ℕ → Bool → ℕ → Float
over f s a t b = cond (eqb b 0) (cond (eqb a 0) nan (inf (unlike s t))) (round f (unlike s t) a b)

over_scale : (f : Format) (s t : Bool) (a b c : ℕ) → 0 < c → over f s (a * c) t (b * c) ≡ over f s a t b
over_scale f s t a zero c C = rw (zero-mul c, zero_scale a c C) refl
over_scale f s t a (suc b) c C =
    rw (zero_scale (suc b) c C, eqb-suc-zero b)
    (round_same f (unlike s t) (a * c) (suc b * c) a (suc b) (mul-pos (zero-lt-suc b) C) (zero-lt-suc b) (mul_right_comm a c (suc b) ∙ mul_assoc a (suc b) c))

div_is : (f : Format) (s : Bool) (m : ℕ) (e : ℤ) (t : Bool) (n : ℕ) (d : ℤ) → div f (fin s m e) (fin t n d) ≡ over f s (m * up e * down d) t (n * up d * down e)
unfolding div
div_is f s m e t n d = λ i. cond (part n d e i) (cond (part m e d i) nan (inf (unlike s t))) (round f (unlike s t) (m * up e * down d) (n * up d * down e))
  where
    part : (n : ℕ) (d e : ℤ) → eqb n 0 ≡ eqb (n * up d * down e) 0
    part n d e = sym (zero_scale (n * up d) (down e) (down_pos e) ∙ zero_scale n (up d) (up_pos d))

pub quotient_times : (f : Format) (k : ℕ) (x y u v : Float) → Times k x y → Times k u v → div f x u ≡ div f y v
quotient_times f = same_times (div f) (over f) (div_is f) (over_scale f)

-- a quotient by a number that is not zero, from the values
pub div_value : (f : Format) (x u : Float) (s t : Bool) (a c b d : ℕ) → 0 < c → 0 < d → 0 < b → HasValue x s a c → HasValue u t b d
    → div f x u ≡ round f (unlike s t) (a * d) (b * c)
div_value f x u s t a c b d C D B h k =
    by_values (div f) (over f) (div_is f) (over_scale f) x u s t a c b d C D h k
    ∙ rw (ne_eqb (b * c) 0 (λ (e : b * c ≡ 0). no_product b c B C e))
