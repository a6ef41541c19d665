-- A finite float by its value, ±a / c, in any way to write it as a fraction. The value fixes a float that a format holds; sums and products
-- are roundings of the values' sums and products; and a value of few digits is a whole number of any unit that is fine enough.
-- Assumes nothing.
use Rattle.std.specs.Prelude.{◌≡◌, refl, Bool, true, false, not, ◌&&◌, cond, ℕ, zero, suc, ◌+◌, ◌-◌, ◌*◌, ◌%◌, ◌^◌, ◌<◌, ◌≤◌, ℤ, pos, negsuc, T, leb}
use Rattle.std.specs.Prelude.{ltb, eqb, Float}
use Rattle.std.proofs.Common.{sym, ap, ◌∙◌, subst, le_refl, le_trans, le_of_eq, le_of_suc-le-suc, lt_of_not-le, not-le_of_lt, zero-lt-suc, mul-pos}
use Rattle.std.proofs.Common.{mul_comm, mul_assoc, mul_left_comm, mul_right_comm, one-mul, mul-one, zero-mul, add-mul, lt_of_lt_of_le}
use Rattle.std.proofs.Common.{mul-lt-mul_of_pos_right, lt_of_mul-lt-mul_right, arith, leb→le, ltb→lt, eqb→eq, pow-add, pow_pos}
use Rattle.std.specs.Bool.{beq}
use Rattle.std.proofs.Math.Nat.{mul-mul-mul_comm, eq_of_mul-eq-mul_right}
use Rattle.std.proofs.Math.Pow.{pow-lt}
use Rattle.std.specs.Float.{nan, inf, fin, Format}
use Rattle.std.specs.Float.Ieee.{prec, emax, low, up, down, unlike, round, neg, sum, add, mul, fits, of_bits, to_bits}
use Rattle.std.specs.Float.Ieee.Fits.{up_pos, down_pos, and_r}
use Rattle.std.specs.Float.Ieee.Bits.{of_bits-to_bits}
use Rattle.std.specs.Float.Ieee.Exact.{HasValue}
use Rattle.std.specs.Float.Ieee.Nearest.{div_same}
use Rattle.std.specs.Float.Ieee.Scale.{round_same}
use Rattle.ieee.specs.Numbers.{three, ltb_scale, sub_scale, le_multiple, shift, fine}
use Rattle.ieee.specs.Signs.{negative}

-- ---- as another fraction of the same size
pub ratios : (x p q r s y : ℕ) → 0 < y → x * p ≡ q * y → x * r ≡ s * y → q * r ≡ s * p
ratios x p q r s y Y h k =
    eq_of_mul-eq-mul_right y Y (q * r) (s * p)
    (mul_right_comm q r y ∙ ap (λ (n : ℕ). n * r) (sym h) ∙ mul_right_comm x p r ∙ ap (λ (n : ℕ). n * p) k ∙ mul_right_comm s y p)

pub same_value : (x : Float) (s : Bool) (a c b d : ℕ) → 0 < c → b * c ≡ a * d → HasValue x s a c → HasValue x s b d
same_value nan s a c b d C e h = h
same_value (inf t) s a c b d C e h = h
same_value (fin t m z) s a c b d C e h = (h.0, ratios a (down z) (m * up z) d b c C (sym h.1) (sym e))

-- a zero is zero in all units
pub zero_value : (x : Float) (s : Bool) (a b c d : ℕ) → 0 < c → a ≡ 0 → b ≡ 0 → HasValue x s a c → HasValue x s b d
zero_value x s a b c d C z y h =
    same_value x s a c b d C (ap (λ (i : ℕ). i * c) y ∙ zero-mul c ∙ sym (ap (λ (i : ℕ). i * d) z ∙ zero-mul d)) h

-- units of 2 ^ -u as the finer ones of 2 ^ -v, and back
pub to_finer : (x : Float) (s : Bool) (a u v : ℕ) → u ≤ v → HasValue x s a (2 ^ u) → HasValue x s (a * 2 ^ (v - u)) (2 ^ v)
to_finer x s a u v l h = same_value x s a (2 ^ u) (a * 2 ^ (v - u)) (2 ^ v) (pow_pos u) (sym (fine a u v l)) h

pub to_coarser : (x : Float) (s : Bool) (a u v : ℕ) → u ≤ v → HasValue x s (a * 2 ^ (v - u)) (2 ^ v) → HasValue x s a (2 ^ u)
to_coarser x s a u v l h = same_value x s (a * 2 ^ (v - u)) (2 ^ v) a (2 ^ u) (pow_pos v) (fine a u v l) h

-- ---- the sign
pub neg_value : (x : Float) (s : Bool) (a c : ℕ) → HasValue x s a c → HasValue (neg x) (not s) a c
unfolding neg
neg_value nan s a c h = h
neg_value (inf t) s a c h = h
neg_value (fin t m e) s a c h = (ap not h.0, h.1)

pub sign_is : (x : Float) (s : Bool) (a c : ℕ) → HasValue x s a c → negative x ≡ s
sign_is nan s a c h = absurd h
sign_is (inf t) s a c h = absurd h
sign_is (fin t m e) s a c h = h.0

-- ---- the sign and the size fix a value that the format holds
same_bits : (f : Format) (x y : Float) (s : Bool) (a c : ℕ) → 0 < c → HasValue x s a c → HasValue y s a c → to_bits f x ≡ to_bits f y
unfolding to_bits
same_bits f nan y s a c C h k = absurd h
same_bits f (inf t) y s a c C h k = absurd h
same_bits f (fin t m e) nan s a c C h k = absurd k
same_bits f (fin t m e) (inf r) s a c C h k = absurd k
same_bits f (fin t m e) (fin r n d) s a c C h k =
    let u = 2 ^ low f in
    let q : m * up e * down d ≡ n * up d * down e = ratios a (down e) (m * up e) (down d) (n * up d) c C (sym h.1) (sym k.1) in
    rw (
      h.0,
      k.0,
      div_same (m * up e * u) (down e) (n * up d * u) (down d) (down_pos e) (down_pos d)
          (mul_right_comm (m * up e) u (down d) ∙ ap (λ (z : ℕ). z * u) q ∙ mul_right_comm (n * up d) (down e) u),
    )

pub value_unique : (f : Format) (x y : Float) (s : Bool) (a c : ℕ) → T (fits f x) → T (fits f y) → 0 < c → HasValue x s a c → HasValue y s a c → x ≡ y
value_unique f x y s a c p q C h k = sym (of_bits-to_bits f x p) ∙ ap (of_bits f) (same_bits f x y s a c C h k) ∙ of_bits-to_bits f y q

-- ---- the digits of a value that the format holds
-- a zero has no exponent
pub zero_down : (f : Format) (s : Bool) (e : ℤ) (v : ℕ) → T (fits f (fin s zero e)) → down e ≤ 2 ^ v
unfolding fits
zero_down f s e v t = le_trans (le_multiple (up e) (down e) (up_pos e)) (le_trans (le_of_eq (eqb→eq (up e * down e) 1 t)) (pow_pos v))

-- what `fits` says of any other
parts : (f : Format) (s : Bool) (m : ℕ) (e : ℤ) → T (fits f (fin s (suc m) e))
    → (suc m < 2 ^ prec f) × (down e ≤ 2 ^ low f) × (suc m * up e < 2 ^ suc (emax f) * down e)
unfolding fits
parts f s m e t =
    let A = eqb (suc m % 2) 1 in
    let B = ltb (suc m) (2 ^ prec f) in
    let z = three (A && B) (leb (down e) (2 ^ low f)) (ltb (suc m * up e) (2 ^ suc (emax f) * down e)) t in
    (ltb→lt (suc m) (2 ^ prec f) (and_r A B z.0), leb→le (down e) (2 ^ low f) z.1, ltb→lt (suc m * up e) (2 ^ suc (emax f) * down e) z.2)

pub few_digits : (f : Format) (s : Bool) (m : ℕ) (e : ℤ) → T (fits f (fin s m e)) → m < 2 ^ prec f
few_digits f s zero e t = pow_pos (prec f)
few_digits f s (suc m) e t = (parts f s m e t).0

pub low_fits : (f : Format) (s : Bool) (m : ℕ) (e : ℤ) → T (fits f (fin s m e)) → down e ≤ 2 ^ low f
low_fits f s zero e t = zero_down f s e (low f) t
low_fits f s (suc m) e t = (parts f s m e t).1

-- m * 2 ^ e in units of 2 ^ -v
pub in_units : (v m : ℕ) (e : ℤ) → down e ≤ 2 ^ v → (j : ℕ) × (m * up e * 2 ^ v ≡ m * 2 ^ j * down e)
in_units v m (pos a) h = (a + v, shift m a v ∙ sym (mul-one (m * 2 ^ (a + v))))
in_units v m (negsuc a) h =
    let A : suc a ≤ v = le_of_suc-le-suc (lt_of_not-le (λ (g : suc v ≤ suc a). not-le_of_lt (pow-lt g) h)) in
    (v - suc a, ap (λ (z : ℕ). z * 2 ^ v) (mul-one m) ∙ fine m (suc a) v A)

-- a value of v of the format's smallest values is m * 2 ^ j of them, with few digits m
pub record Digits (f : Format) (v : ℕ) : Type 0 where
  pub m : ℕ
  pub j : ℕ
  pub is : m * 2 ^ j ≡ v
  pub small : m < 2 ^ prec f

pub digits : (f : Format) (x : Float) (s : Bool) (v : ℕ) → T (fits f x) → HasValue x s v (2 ^ low f) → Digits f v
digits f nan s v t h = absurd h
digits f (inf r) s v t h = absurd h
digits f (fin r m e) s v t h =
    let i = in_units (low f) m e (low_fits f r m e t) in
    record {
      m = m;
      j = i.0;
      is = eq_of_mul-eq-mul_right (down e) (down_pos e) (m * 2 ^ i.0) v (sym i.1 ∙ h.1);
      small = few_digits f r m e t;
    }

-- and it is below the format's end
pub fits_below : (f : Format) (x : Float) (s : Bool) (v : ℕ) → T (fits f x) → HasValue x s v (2 ^ low f) → v < 2 ^ (low f + suc (emax f))
fits_below f nan s v t h = absurd h
fits_below f (inf r) s v t h = absurd h
fits_below f (fin r zero e) s v t h =
    subst (λ (n : ℕ). n < 2 ^ (low f + suc (emax f)))
    (eq_of_mul-eq-mul_right (down e) (down_pos e) 0 v (zero-mul (down e) ∙ sym (ap (λ (n : ℕ). n * 2 ^ low f) (zero-mul (up e)) ∙ zero-mul (2 ^ low f)) ∙ h.1))
    (pow_pos (low f + suc (emax f)))
fits_below f (fin r (suc m) e) s v t h =
    let top = 2 ^ suc (emax f) in
    let end : top * 2 ^ low f ≡ 2 ^ (low f + suc (emax f)) = mul_comm top (2 ^ low f) ∙ sym (pow-add 2 (low f) (suc (emax f))) in
    lt_of_mul-lt-mul_right (down e)
    (subst (λ (n : ℕ). n < 2 ^ (low f + suc (emax f)) * down e) h.1
    (lt_of_lt_of_le (mul-lt-mul_of_pos_right (parts f r m e t).2 (pow_pos (low f)))
    (le_of_eq (mul_right_comm top (down e) (2 ^ low f) ∙ ap (λ (n : ℕ). n * down e) end))))

-- ---- the product
pub mul_value : (f : Format) (x u : Float) (s t : Bool) (a c b d : ℕ) → 0 < c → 0 < d → HasValue x s a c → HasValue u t b d
    → mul f x u ≡ round f (unlike s t) (a * b) (c * d)
unfolding mul
mul_value f nan u s t a c b d C D h k = absurd h
mul_value f (inf z) u s t a c b d C D h k = absurd h
mul_value f (fin z m e) nan s t a c b d C D h k = absurd k
mul_value f (fin z m e) (inf y) s t a c b d C D h k = absurd k
mul_value f (fin z m e) (fin y n i) s t a c b d C D h k =
    (λ j. round f (unlike (h.0 j) (k.0 j)) (m * up e * (n * up i)) (down e * down i))
    ∙ round_same f (unlike s t) (m * up e * (n * up i)) (down e * down i) (a * b) (c * d) (mul-pos (down_pos e) (down_pos i)) (mul-pos C D)
    (mul-mul-mul_comm (m * up e) (n * up i) c d ∙ (λ j. h.1 j * k.1 j) ∙ mul-mul-mul_comm a (down e) b (down i))

-- ---- the sum: its sign and its size are those of the whole numbers, whatever both are multiplied by
pub record Shape (f : Format) (s t : Bool) (a b : ℕ) : Type 0 where
  pub sign : Bool
  pub size : ℕ
  pub few : size ≤ a + b
  pub is : (c d : ℕ) → 0 < c → sum f s (a * c) t (b * c) d ≡ round f sign (size * c) d

pub shape : (f : Format) (s t : Bool) (a b : ℕ) → Shape f s t a b
unfolding sum
shape f s t a b = go (beq s t) (ltb a b) refl refl
  where
    less : (a b : ℕ) → a - b ≤ a + b
    less a b = omega arith

    less' : (a b : ℕ) → b - a ≤ a + b
    less' a b = omega arith

    -- the sum by what its two tests answer
    by : (q l : Bool) (c d : ℕ) → Float
    by q l c d =
        cond q (round f s (a * c + b * c) d)
        (cond l (round f t (b * c - a * c) d) (round f (s && ltb (b * c) (a * c)) (a * c - b * c) d))

    pick : (q l : Bool) → beq s t ≡ q → ltb a b ≡ l → (c d : ℕ) → 0 < c → sum f s (a * c) t (b * c) d ≡ by q l c d
    pick q l e g c d C = λ i. by (e i) ((ltb_scale a b c C ∙ g) i) c d

    go : (q l : Bool) → beq s t ≡ q → ltb a b ≡ l → Shape f s t a b
    go true l e g =
        record {
          sign = s;
          size = a + b;
          few = le_refl (a + b);
          is = λ c d C. pick true l e g c d C ∙ ap (λ (n : ℕ). round f s n d) (sym (add-mul a b c));
        }
    go false true e g =
        record {
          sign = t;
          size = b - a;
          few = less' a b;
          is = λ c d C. pick false true e g c d C ∙ ap (λ (n : ℕ). round f t n d) (sub_scale b a c);
        }
    go false false e g =
        record {
          sign = s && ltb b a;
          size = a - b;
          few = less a b;
          is = λ c d C. pick false false e g c d C ∙ (λ i. round f (s && ltb_scale b a c C i) (sub_scale a b c i) d);
        }

sum_scale : (f : Format) (s t : Bool) (a b c d : ℕ) → 0 < c → 0 < d → sum f s (a * c) t (b * c) (d * c) ≡ sum f s a t b d
sum_scale f s t a b c d C D =
    let g = shape f s t a b in
    g.is c (d * c) C
    ∙ round_same f g.sign (g.size * c) (d * c) (g.size * 1) d (mul-pos D C) D (simp (mul_assoc, mul_comm, one-mul))
    ∙ sym (g.is 1 d (zero-lt-suc 0))
    ∙ (λ i. sum f s (mul-one a i) t (mul-one b i) d)

pub add_value : (f : Format) (x u : Float) (s t : Bool) (a b p c : ℕ) → 0 < p → 0 < c → HasValue x s (a * p) c → HasValue u t (b * p) c
    → add f x u ≡ round f (shape f s t a b).sign ((shape f s t a b).size * p) c
unfolding add
add_value f nan u s t a b p c P C h k = absurd h
add_value f (inf z) u s t a b p c P C h k = absurd h
add_value f (fin z m e) nan s t a b p c P C h k = absurd k
add_value f (fin z m e) (inf y) s t a b p c P C h k = absurd k
add_value f (fin z m e) (fin y n d) s t a b p c P C h k =
    let v = down e * down d in
    let D : 0 < v = mul-pos (down_pos e) (down_pos d) in
    let A : m * up e * down d * c ≡ a * (p * v) = mul_right_comm (m * up e) (down d) c ∙ ap (λ (i : ℕ). i * down d) h.1 ∙ simp mul_assoc in
    let B : n * up d * down e * c ≡ b * (p * v) =
    mul_right_comm (n * up d) (down e) c ∙ ap (λ (i : ℕ). i * down e) k.1 ∙ simp (mul_assoc, mul_comm (down d) (down e)) in
    let g = shape f s t a b in
    sym (sum_scale f z y (m * up e * down d) (n * up d * down e) c v C D)
    ∙ (λ i. sum f (h.0 i) (A i) (k.0 i) (B i) (v * c))
    ∙ g.is (p * v) (v * c) (mul-pos P D)
    ∙ round_same f g.sign (g.size * (p * v)) (v * c) (g.size * p) c (mul-pos D C) C (simp (mul_assoc, mul_comm, mul_left_comm))
