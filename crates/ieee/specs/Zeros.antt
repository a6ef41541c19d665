-- The sign of a zero. `canon` forgets it and nothing else, so `canon x ≡ canon y` says that x and y are equal but for it: each operation
-- keeps that, and a square has no such sign left. And a sum is -0.0 only where its first part is, so that an accumulator which
-- starts at +0.0 never becomes -0.0.
-- Assumes nothing.
use Rattle.std.specs.Prelude.{◌≡◌, refl, Bool, not, ◌&&◌, ℕ, zero, suc, ◌+◌, ◌-◌, ◌*◌, ◌^◌, ◌<◌, ◌≤◌, ℤ, pos, T, ltb, Float}
use Rattle.std.proofs.Common.{sym, ap, ◌∙◌, subst, zero-le, le_trans, le_of_eq, lt_irrefl, zero-lt-suc, mul-pos, mul_comm, mul_assoc, mul_right_comm}
use Rattle.std.proofs.Common.{one-mul, zero-mul, zero-add, add-mul, arith, ltb→lt, nltb→le, lit<, pow_pos}
use Rattle.std.proofs.Math.Bool.{true, false, cond}
use Rattle.std.proofs.lemmas.Bool.{false≢true}
use Rattle.std.specs.Float.{nan, inf, fin, Format, binary32, binary64}
use Rattle.std.specs.Float.Ieee.{prec, emax, low, up, down, unlike, odd, units, round, neg, sum, add, mul, fits}
use Rattle.std.specs.Float.Ieee.Fits.{round_is, round-fits, up_pos, down_pos}
use Rattle.std.specs.Float.Ieee.Exact.{round_exact}
use Rattle.std.specs.Float.Ieee.Order.{round_mono}
use Rattle.std.specs.Float.Ieee.Back.{round_whole, whole_unique}
use Rattle.std.specs.Float.Ieee.Scale.{round_same}
use Rattle.std.specs.Float.Ieee.Positive.{positive, above, above_of_le, positive_of_value}
use Rattle.ieee.specs.Numbers.{sub_scale, le_multiple, no_product}
use Rattle.ieee.specs.Signs.{apart, plus_comm, times_comm, round_neg, flip}
use Rattle.ieee.specs.Values.{low_fits, in_units}

-- ---- the sign of a zero, forgotten
abbrev pub canon : Float → Float
canon nan = nan
canon (inf s) = inf s
canon (fin s zero e) = fin false zero e
canon (fin s (suc m) e) = fin s (suc m) e

-- a zero is rounded to the zero of its sign
pub round_zero : (f : Format) (s : Bool) (c : ℕ) → 0 < c → round f s 0 c ≡ fin s 0 (pos 0)
round_zero f s c C =
    round_same f s 0 c 0 1 C (zero-lt-suc 0) (zero-mul 1 ∙ sym (zero-mul c))
    ∙ whole_unique f (round f s 0 1) (fin s 0 (pos 0)) s 0 (round-fits f s 0 1) (unfold fits in tt) (round_whole f s 0 zero-le) (refl, refl)

zero_alike : (f : Format) (s t : Bool) (c : ℕ) → 0 < c → canon (round f s 0 c) ≡ canon (round f t 0 c)
zero_alike f s t c C = ap canon (round_zero f s c C) ∙ sym (ap canon (round_zero f t c C))

-- a sum with a zero is the other part, rounded
less_zero : (b : ℕ) → b - 0 ≡ b
less_zero b = omega arith

is_zero : (b : ℕ) → b ≤ 0 → b ≡ 0
is_zero b h = omega arith

apart_zero : (f : Format) (s t : Bool) (b c : ℕ) (l g : Bool) → 0 < c → (T (not l) → b ≤ 0) → canon (apart f s 0 t b c l g) ≡ canon (round f t b c)
apart_zero f s t b c true g C h = rw less_zero
apart_zero f s t b c false g C h = rw (is_zero b (h tt)) (zero_alike f (s && g) t c C)

zero_plus : (f : Format) (s t : Bool) (b c : ℕ) → 0 < c → canon (sum f s 0 t b c) ≡ canon (round f t b c)
unfolding sum
zero_plus f true true b c C = rw zero-add
zero_plus f false false b c C = rw zero-add
zero_plus f true false b c C = apart_zero f true false b c (ltb 0 b) (ltb b 0) C (nltb→le 0 b)
zero_plus f false true b c C = apart_zero f false true b c (ltb 0 b) (ltb b 0) C (nltb→le 0 b)

pub canon_plus : (f : Format) (x y : Float) → canon (add f x y) ≡ canon (add f (canon x) y)
unfolding add
canon_plus f nan y = refl
canon_plus f (inf s) y = refl
canon_plus f (fin s (suc m) e) y = refl
canon_plus f (fin s zero e) nan = refl
canon_plus f (fin s zero e) (inf t) = refl
canon_plus f (fin s zero e) (fin t n d) =
    rw (zero-mul (up e), zero-mul (down d))
    (zero_plus f s t (n * up d * down e) (down e * down d) (mul-pos (down_pos e) (down_pos d))
    ∙ sym (zero_plus f false t (n * up d * down e) (down e * down d) (mul-pos (down_pos e) (down_pos d))))

pub canon_times : (f : Format) (x y : Float) → canon (mul f x y) ≡ canon (mul f (canon x) y)
unfolding mul
canon_times f nan y = refl
canon_times f (inf s) y = refl
canon_times f (fin s (suc m) e) y = refl
canon_times f (fin s zero e) nan = refl
canon_times f (fin s zero e) (inf t) = refl
canon_times f (fin s zero e) (fin t n d) =
    rw (zero-mul (up e), zero-mul (n * up d)) (zero_alike f (unlike s t) (unlike false t) (down e * down d) (mul-pos (down_pos e) (down_pos d)))

pub canon_neg : (x : Float) → canon (neg x) ≡ canon (neg (canon x))
unfolding neg
canon_neg nan = refl
canon_neg (inf s) = refl
canon_neg (fin s zero e) = refl
canon_neg (fin s (suc m) e) = refl

-- a square has no sign to forget
pub square : (f : Format) (x : Float) → mul f x x ≡ mul f (canon x) (canon x)
unfolding mul
square f nan = refl
square f (inf s) = refl
square f (fin s (suc m) e) = refl
square f (fin true zero e) = refl
square f (fin false zero e) = refl

level_zero : (a b : ℕ) → a ≤ b → a - b ≡ 0
level_zero a b h = omega arith

apart_neg : (f : Format) (s t : Bool) (a b c : ℕ) (l g : Bool) → 0 < c → (T (not g) → a ≤ b)
    → canon (apart f (not s) a (not t) b c l g) ≡ canon (neg (apart f s a t b c l g))
apart_neg f s t a b c true g C h = rw round_neg
apart_neg f true t a b c false true C h = rw round_neg
apart_neg f false t a b c false true C h = rw round_neg
apart_neg f s t a b c false false C h = rw (round_neg, level_zero a b (h tt)) (zero_alike f (not s && false) (not (s && false)) c C)

sum_neg : (f : Format) (s : Bool) (a : ℕ) (t : Bool) (b c : ℕ) → 0 < c → canon (sum f (not s) a (not t) b c) ≡ canon (neg (sum f s a t b c))
unfolding sum
sum_neg f true a true b c C = rw round_neg
sum_neg f false a false b c C = rw round_neg
sum_neg f true a false b c C = apart_neg f true false a b c (ltb a b) (ltb b a) C (nltb→le b a)
sum_neg f false a true b c C = apart_neg f false true a b c (ltb a b) (ltb b a) C (nltb→le b a)

pub plus_neg : (f : Format) (x y : Float) → canon (add f (neg x) (neg y)) ≡ canon (neg (add f x y))
unfolding add neg
plus_neg f nan y = refl
plus_neg f (inf s) nan = refl
plus_neg f (inf true) (inf true) = refl
plus_neg f (inf true) (inf false) = refl
plus_neg f (inf false) (inf true) = refl
plus_neg f (inf false) (inf false) = refl
plus_neg f (inf s) (fin t n d) = refl
plus_neg f (fin s m e) nan = refl
plus_neg f (fin s m e) (inf t) = refl
plus_neg f (fin s m e) (fin t n d) = sum_neg f s (m * up e * down d) t (n * up d * down e) (down e * down d) (mul-pos (down_pos e) (down_pos d))

-- ---- equal but for the sign of a zero: each operation keeps that
pub plus_alike : (f : Format) (x x' y y' : Float) → canon x ≡ canon x' → canon y ≡ canon y' → canon (add f x y) ≡ canon (add f x' y')
plus_alike f x x' y y' p q = left x x' y p ∙ ap canon (plus_comm f x' y) ∙ left y y' x' q ∙ ap canon (plus_comm f y' x')
  where
    left : (x x' y : Float) → canon x ≡ canon x' → canon (add f x y) ≡ canon (add f x' y)
    left x x' y p = canon_plus f x y ∙ ap (λ (z : Float). canon (add f z y)) p ∙ sym (canon_plus f x' y)

pub times_alike : (f : Format) (x x' y y' : Float) → canon x ≡ canon x' → canon y ≡ canon y' → canon (mul f x y) ≡ canon (mul f x' y')
times_alike f x x' y y' p q = left x x' y p ∙ ap canon (times_comm f x' y) ∙ left y y' x' q ∙ ap canon (times_comm f y' x')
  where
    left : (x x' y : Float) → canon x ≡ canon x' → canon (mul f x y) ≡ canon (mul f x' y)
    left x x' y p = canon_times f x y ∙ ap (λ (z : Float). canon (mul f z y)) p ∙ sym (canon_times f x' y)

pub square_alike : (f : Format) (x x' : Float) → canon x ≡ canon x' → mul f x x ≡ mul f x' x'
square_alike f x x' p = square f x ∙ ap (λ (z : Float). mul f z z) p ∙ sym (square f x')

pub plus_flip : (f : Format) (b : Bool) (x y : Float) → canon (add f (flip b x) (flip b y)) ≡ canon (flip b (add f x y))
plus_flip f true x y = plus_neg f x y
plus_flip f false x y = refl

-- ---- what is rounded to a positive value, or is the smallest at least, is no -0
plain_positive : (m : ℕ) (e : ℤ) → canon (fin false m e) ≡ fin false m e
plain_positive zero e = refl
plain_positive (suc m) e = refl

plain_odd : (d q k l : ℕ) → canon (odd d false q k l) ≡ odd d false q k l
unfolding odd
plain_odd d zero k l = refl
plain_odd d (suc q) k l = plain_positive _ _

plain_units : (f : Format) (q k : ℕ) → canon (units f false q k) ≡ units f false q k
unfolding units
plain_units f q k = go (ltb (q * 2 ^ k) (2 ^ (low f + suc (emax f))))
  where
    go : (b : Bool) → canon (cond b (odd (suc (prec f)) false q k (low f)) (inf false)) ≡ cond b (odd (suc (prec f)) false q k (low f)) (inf false)
    go true = plain_odd (suc (prec f)) q k (low f)
    go false = refl

plain_above : (x : Float) → T (above x) → canon (neg x) ≡ neg x
unfolding neg
plain_above nan h = absurd h
plain_above (inf s) h = refl
plain_above (fin true m e) h = absurd h
plain_above (fin false zero e) h = absurd (lt_irrefl 0 (ltb→lt 0 0 h))
plain_above (fin false (suc m) e) h = refl

smallest : (f : Format) → T (positive (round f false 1 (2 ^ low f)))
smallest f =
    positive_of_value (round f false 1 (2 ^ low f)) 1 (2 ^ low f)
    (round_exact f false 1 (2 ^ low f) 1 0 (pow_pos (low f)) (one_lt f) (fine f) refl) (zero-lt-suc 0)
  where
    one_lt : (f : Format) → 1 < 2 ^ prec f
    one_lt binary32 = lit< tt
    one_lt binary64 = lit< tt

    fine : (f : Format) → 1 * 2 ^ 0 < 2 ^ (low f + suc (emax f))
    fine binary32 = lit< tt
    fine binary64 = lit< tt

round_plain : (f : Format) (s : Bool) (n c : ℕ) → 0 < c → (T s → c ≤ n * 2 ^ low f) → canon (round f s n c) ≡ round f s n c
round_plain f false n c C h = ap canon (round_is f false n c) ∙ plain_units f _ _ ∙ sym (round_is f false n c)
round_plain f true n c C h =
    let r = round f false n c in
    let a : T (above r) =
    above_of_le (round f false 1 (2 ^ low f)) r (smallest f) (round_mono f 1 (2 ^ low f) n c (pow_pos (low f)) C (le_trans (le_of_eq (one-mul c)) (h tt))) in
    ap canon (sym (round_neg f false n c)) ∙ plain_above r a ∙ round_neg f false n c

-- ---- a sum of whole numbers of the smallest value
at_least : (n l k c : ℕ) → n * l ≡ k * c → 0 < n → 0 < l → c ≤ n * l
at_least n l zero c e N L = absurd (no_product n l N L (e ∙ zero-mul c))
at_least n l (suc k) c e N L = subst (λ (z : ℕ). c ≤ z) (sym e) (le_multiple (suc k) c (zero-lt-suc k))

module _ (f : Format) (a b c A B : ℕ) (C : 0 < c) (p : a * 2 ^ low f ≡ A * c) (q : b * 2 ^ low f ≡ B * c) where
  plus_units : (a + b) * 2 ^ low f ≡ (A + B) * c
  plus_units = add-mul a b (2 ^ low f) ∙ (λ i. p i + q i) ∙ sym (add-mul A B c)

  less_units : (a - b) * 2 ^ low f ≡ (A - B) * c
  less_units = sym (sub_scale a b (2 ^ low f)) ∙ (λ i. p i - q i) ∙ sub_scale A B c

  less_units' : (b - a) * 2 ^ low f ≡ (B - A) * c
  less_units' = sym (sub_scale b a (2 ^ low f)) ∙ (λ i. q i - p i) ∙ sub_scale B A c

  gap : (x y : ℕ) → x < y → 0 < y - x
  gap x y h = omega arith

  more : 0 < a → 0 < a + b
  more h = omega arith

  sum_plain : (s t : Bool) → (T s → 0 < a) → canon (sum f s a t b c) ≡ sum f s a t b c
  unfolding sum
  sum_plain true true h = round_plain f true (a + b) c C (λ z. at_least (a + b) (2 ^ low f) (A + B) c plus_units (more (h tt)) (pow_pos (low f)))
  sum_plain false false h = round_plain f false (a + b) c C (λ z. absurd z)
  sum_plain true false h = go (ltb a b) (ltb b a) (ltb→lt b a)
    where
      go : (l g : Bool) → (T g → b < a)
          → canon (cond l (round f false (b - a) c) (round f g (a - b) c)) ≡ cond l (round f false (b - a) c) (round f g (a - b) c)
      go true g k = round_plain f false (b - a) c C (λ z. absurd z)
      go false g k = round_plain f g (a - b) c C (λ z. at_least (a - b) (2 ^ low f) (A - B) c less_units (gap b a (k z)) (pow_pos (low f)))
  sum_plain false true h = go (ltb a b) (ltb→lt a b)
    where
      go : (l : Bool) → (T l → a < b)
          → canon (cond l (round f true (b - a) c) (round f false (a - b) c)) ≡ cond l (round f true (b - a) c) (round f false (a - b) c)
      go true k = round_plain f true (b - a) c C (λ z. at_least (b - a) (2 ^ low f) (B - A) c less_units' (gap a b (k tt)) (pow_pos (low f)))
      go false k = round_plain f false (a - b) c C (λ z. absurd z)

-- ---- a value that fits is such a whole number, so a sum is -0 only where its first part is
pub plus_plain : (f : Format) (x y : Float) → T (fits f x) → T (fits f y) → canon x ≡ x → canon (add f x y) ≡ add f x y
unfolding add
plus_plain f nan y p q h = refl
plus_plain f (inf s) nan p q h = refl
plus_plain f (inf true) (inf true) p q h = refl
plus_plain f (inf true) (inf false) p q h = refl
plus_plain f (inf false) (inf true) p q h = refl
plus_plain f (inf false) (inf false) p q h = refl
plus_plain f (inf s) (fin t n d) p q h = refl
plus_plain f (fin s m e) nan p q h = refl
plus_plain f (fin s m e) (inf t) p q h = refl
plus_plain f (fin s m e) (fin t n d) p q h =
    let u = in_units (low f) m e (low_fits f s m e p) in
    let v = in_units (low f) n d (low_fits f t n d q) in
    sum_plain f (m * up e * down d) (n * up d * down e) (down e * down d) (m * 2 ^ u.0) (n * 2 ^ v.0) (mul-pos (down_pos e) (down_pos d))
    (mul_right_comm (m * up e) (down d) (2 ^ low f) ∙ ap (λ (z : ℕ). z * down d) u.1 ∙ mul_assoc (m * 2 ^ u.0) (down e) (down d))
    (mul_right_comm (n * up d) (down e) (2 ^ low f) ∙ ap (λ (z : ℕ). z * down e) v.1
    ∙ mul_assoc (n * 2 ^ v.0) (down d) (down e) ∙ ap (λ (z : ℕ). n * 2 ^ v.0 * z) (mul_comm (down d) (down e)))
    s t (first s m h)
  where
    first : (s : Bool) (m : ℕ) → canon (fin s m e) ≡ fin s m e → T s → 0 < m * up e * down d
    first false m h z = absurd z
    first true zero h z = let b : false ≡ true = cc in absurd (false≢true b)
    first true (suc m) h z = mul-pos (mul-pos (zero-lt-suc m) (up_pos e)) (down_pos d)
