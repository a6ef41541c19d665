-- Which operations a change of sign goes through, for either format and for all values: NaN, infinities and both zeros too. What a
-- negated capture or a quarter turn does to a product is worked out with these. The sign of a zero is for Zeros.
-- Assumes nothing.
use Rattle.std.specs.Prelude.{◌≡◌, refl, Bool, true, false, not, ◌&&◌, cond, ℕ, zero, suc, ◌+◌, ◌-◌, ◌*◌, ◌^◌, ◌<◌, ◌≤◌, ℤ, T, ltb, eqb, Float}
use Rattle.std.proofs.Common.{sym, ap, ◌∙◌, true≢false, zero-mul, mul_comm, add_comm, arith, ltb→lt, nltb→le}
use Rattle.std.proofs.Math.Dec.{leb-suc-zero}
use Rattle.std.specs.Float.{nan, inf, fin, Format, binary32}
use Rattle.std.specs.Float.Ieee.{prec, emax, low, up, down, unlike, odd, units, round, neg, sum, add, mul, div}
use Rattle.std.specs.Float.Ieee.Fits.{round_is}
use Rattle.ieee.specs.Narrow.{narrow_of}

-- ---- the order of the operands
unlike_comm : (s t : Bool) → unlike s t ≡ unlike t s
unlike_comm true true = refl
unlike_comm true false = refl
unlike_comm false true = refl
unlike_comm false false = refl

pub times_comm : (f : Format) (x y : Float) → mul f x y ≡ mul f y x
unfolding mul
times_comm f nan nan = refl
times_comm f nan (inf t) = refl
times_comm f nan (fin t n d) = refl
times_comm f (inf s) nan = refl
times_comm f (inf s) (inf t) = ap inf (unlike_comm s t)
times_comm f (inf s) (fin t n d) = rw (unlike_comm s t)
times_comm f (fin s m e) nan = refl
times_comm f (fin s m e) (inf t) = rw (unlike_comm s t)
times_comm f (fin s m e) (fin t n d) = rw (unlike_comm s t, mul_comm (m * up e) (n * up d), mul_comm (down e) (down d))

-- what a sum of unlike signs is, by the two tests on its parts
abbrev pub apart : Format → Bool → ℕ → Bool → ℕ → ℕ → Bool → Bool → Float
apart f s a t b c l g = cond l (round f t (b - a) c) (round f (s && g) (a - b) c)

level : (a b : ℕ) → b ≤ a → a ≤ b → a - b ≡ b - a
level a b h k = omega arith

apart_comm : (f : Format) (s t : Bool) (a b c : ℕ) (l g : Bool) → (T l → a < b) → (T g → b < a) → (T (not l) → b ≤ a) → (T (not g) → a ≤ b)
    → apart f s a t b c l g ≡ apart f t b s a c g l
apart_comm f s t a b c true true x y u v = absurd (both (x tt) (y tt))
  where
    both : a < b → b < a → ⊥
    both p q = omega arith
apart_comm f true true a b c true false x y u v = refl
apart_comm f true false a b c true false x y u v = refl
apart_comm f false true a b c true false x y u v = refl
apart_comm f false false a b c true false x y u v = refl
apart_comm f true t a b c false true x y u v = refl
apart_comm f false t a b c false true x y u v = refl
apart_comm f true true a b c false false x y u v = rw (level a b (u tt) (v tt))
apart_comm f true false a b c false false x y u v = rw (level a b (u tt) (v tt))
apart_comm f false true a b c false false x y u v = rw (level a b (u tt) (v tt))
apart_comm f false false a b c false false x y u v = rw (level a b (u tt) (v tt))

sum_comm : (f : Format) (s : Bool) (a : ℕ) (t : Bool) (b c : ℕ) → sum f s a t b c ≡ sum f t b s a c
unfolding sum
sum_comm f true a true b c = rw (add_comm a b)
sum_comm f false a false b c = rw (add_comm a b)
sum_comm f true a false b c = apart_comm f true false a b c (ltb a b) (ltb b a) (ltb→lt a b) (ltb→lt b a) (nltb→le a b) (nltb→le b a)
sum_comm f false a true b c = apart_comm f false true a b c (ltb a b) (ltb b a) (ltb→lt a b) (ltb→lt b a) (nltb→le a b) (nltb→le b a)

pub plus_comm : (f : Format) (x y : Float) → add f x y ≡ add f y x
unfolding add
plus_comm f nan nan = refl
plus_comm f nan (inf t) = refl
plus_comm f nan (fin t n d) = refl
plus_comm f (inf s) nan = refl
plus_comm f (inf true) (inf true) = refl
plus_comm f (inf true) (inf false) = refl
plus_comm f (inf false) (inf true) = refl
plus_comm f (inf false) (inf false) = refl
plus_comm f (inf s) (fin t n d) = refl
plus_comm f (fin s m e) nan = refl
plus_comm f (fin s m e) (inf t) = refl
plus_comm f (fin s m e) (fin t n d) = sum_comm f s (m * up e * down d) t (n * up d * down e) (down e * down d) ∙ rw (mul_comm (down e) (down d))

-- ---- a change of sign
pub neg_neg : (x : Float) → neg (neg x) ≡ x
unfolding neg
neg_neg nan = refl
neg_neg (inf true) = refl
neg_neg (inf false) = refl
neg_neg (fin true m e) = refl
neg_neg (fin false m e) = refl

odd_neg : (d : ℕ) (s : Bool) (q k l : ℕ) → neg (odd d s q k l) ≡ odd d (not s) q k l
unfolding neg odd
odd_neg d s zero k l = refl
odd_neg d s (suc q) k l = refl

units_neg : (f : Format) (s : Bool) (q k : ℕ) → neg (units f s q k) ≡ units f (not s) q k
unfolding units neg
units_neg f s q k = go (ltb (q * 2 ^ k) (2 ^ (low f + suc (emax f))))
  where
    go : (b : Bool) → neg (cond b (odd (suc (prec f)) s q k (low f)) (inf s)) ≡ cond b (odd (suc (prec f)) (not s) q k (low f)) (inf (not s))
    go true = odd_neg (suc (prec f)) s q k (low f)
    go false = refl

pub round_neg : (f : Format) (s : Bool) (n c : ℕ) → neg (round f s n c) ≡ round f (not s) n c
round_neg f s n c = ap neg (round_is f s n c) ∙ units_neg f s _ _ ∙ sym (round_is f (not s) n c)

unlike_not : (s t : Bool) → unlike (not s) t ≡ not (unlike s t)
unlike_not true true = refl
unlike_not true false = refl
unlike_not false true = refl
unlike_not false false = refl

pick : (b : Bool) (s t : Bool) → cond b nan (inf (unlike (not s) t)) ≡ neg (cond b nan (inf (unlike s t)))
unfolding neg
pick true s t = refl
pick false s t = ap inf (unlike_not s t)

pub times_neg : (f : Format) (x y : Float) → mul f (neg x) y ≡ neg (mul f x y)
unfolding mul neg
times_neg f nan y = refl
times_neg f (inf s) nan = refl
times_neg f (inf s) (inf t) = ap inf (unlike_not s t)
times_neg f (inf s) (fin t n d) = pick (eqb n 0) s t
times_neg f (fin s m e) nan = refl
times_neg f (fin s m e) (inf t) = pick (eqb m 0) s t
times_neg f (fin s m e) (fin t n d) = rw (unlike_not s t, round_neg)

pub times_neg_r : (f : Format) (x y : Float) → mul f x (neg y) ≡ neg (mul f x y)
times_neg_r f x y = times_comm f x (neg y) ∙ times_neg f y x ∙ ap neg (times_comm f y x)

pub times_neg_neg : (f : Format) (x y : Float) → mul f (neg x) (neg y) ≡ mul f x y
times_neg_neg f x y = times_neg f x (neg y) ∙ ap neg (times_neg_r f x y) ∙ neg_neg (mul f x y)

-- ---- a sign that is changed, or not
abbrev pub flip : Bool → Float → Float
flip b x = cond b (neg x) x

pub times_flip : (f : Format) (a b : Bool) (x y : Float) → mul f (flip a x) (flip b y) ≡ flip (unlike a b) (mul f x y)
times_flip f true true x y = times_neg_neg f x y
times_flip f true false x y = times_neg f x y
times_flip f false true x y = times_neg_r f x y
times_flip f false false x y = refl

pub neg_flip : (b : Bool) (x : Float) → neg (flip b x) ≡ flip b (neg x)
neg_flip true x = refl
neg_flip false x = refl

pub square_flip : (f : Format) (b : Bool) (x : Float) → mul f (flip b x) (flip b x) ≡ mul f x x
square_flip f true x = times_neg_neg f x x
square_flip f false x = refl

pub times_flip_both : (f : Format) (b : Bool) (x y : Float) → mul f (flip b x) (flip b y) ≡ mul f x y
times_flip_both f true x y = times_neg_neg f x y
times_flip_both f false x y = refl

-- ---- which values have no minus sign: a NaN counts as one without
abbrev pub negative : Float → Bool
negative nan = false
negative (inf s) = s
negative (fin s m e) = s

pub units_sign : (f : Format) (s : Bool) (q k : ℕ) → negative (units f s q k) ≡ s
unfolding units odd
units_sign f s q k = go q (ltb (q * 2 ^ k) (2 ^ (low f + suc (emax f))))
  where
    go : (q : ℕ) (b : Bool) → negative (cond b (odd (suc (prec f)) s q k (low f)) (inf s)) ≡ s
    go zero true = refl
    go (suc q) true = refl
    go q false = refl

pub round_sign : (f : Format) (s : Bool) (n c : ℕ) → negative (round f s n c) ≡ s
round_sign f s n c = ap negative (round_is f s n c) ∙ units_sign f s _ _

pub unlike_false : (s : Bool) → unlike s false ≡ s
unlike_false true = refl
unlike_false false = refl

unlike_self : (s : Bool) → unlike s s ≡ false
unlike_self true = refl
unlike_self false = refl

pub square_sign : (f : Format) (x : Float) → negative (mul f x x) ≡ false
unfolding mul
square_sign f nan = refl
square_sign f (inf s) = unlike_self s
square_sign f (fin s m e) = round_sign f _ _ _ ∙ unlike_self s

pub plus_sign : (f : Format) (x y : Float) → negative x ≡ false → negative y ≡ false → negative (add f x y) ≡ false
unfolding add sum
plus_sign f nan y p q = refl
plus_sign f (inf s) nan p q = refl
plus_sign f (inf true) (inf t) p q = absurd (true≢false p)
plus_sign f (inf false) (inf true) p q = refl
plus_sign f (inf false) (inf false) p q = refl
plus_sign f (inf s) (fin t n d) p q = p
plus_sign f (fin s m e) nan p q = refl
plus_sign f (fin s m e) (inf t) p q = q
plus_sign f (fin true m e) (fin t n d) p q = absurd (true≢false p)
plus_sign f (fin false m e) (fin true n d) p q = absurd (true≢false q)
plus_sign f (fin false m e) (fin false n d) p q = round_sign f false _ _

-- a sum that starts at -0.0 has lost the minus sign after one addition
pub zero_plus_sign : (f : Format) (s : Bool) (e : ℤ) (y : Float) → negative y ≡ false → negative (add f (fin s 0 e) y) ≡ false
unfolding add sum
zero_plus_sign f s e nan q = refl
zero_plus_sign f s e (inf t) q = q
zero_plus_sign f s e (fin true n d) q = absurd (true≢false q)
zero_plus_sign f false e (fin false n d) q = round_sign f false _ _
zero_plus_sign f true e (fin false n d) q =
    let b = n * up d * down e in
    rw (zero-mul (up e), zero-mul (down d), leb-suc-zero b) (by (ltb 0 b) b (down e * down d))
  where
    by : (l : Bool) (b c : ℕ) → negative (cond l (round f false (b - 0) c) (round f false (0 - b) c)) ≡ false
    by true b c = round_sign f false _ _
    by false b c = round_sign f false _ _

pub quotient_sign : (f : Format) (x y : Float) → negative x ≡ false → negative y ≡ false → negative (div f x y) ≡ false
unfolding div
quotient_sign f nan y p q = refl
quotient_sign f (inf s) nan p q = refl
quotient_sign f (inf s) (inf t) p q = refl
quotient_sign f (inf s) (fin t n d) p q = rw (p, q)
quotient_sign f (fin s m e) nan p q = refl
quotient_sign f (fin s m e) (inf t) p q = rw (p, q)
quotient_sign f (fin s m e) (fin t n d) p q = rw (p, q) (by (eqb n 0) (eqb m 0))
  where
    by : (a b : Bool) → negative (cond a (cond b nan (inf false)) (round f false (m * up e * down d) (n * up d * down e))) ≡ false
    by true true = refl
    by true false = refl
    by false b = round_sign f false _ _

-- ---- of a narrowed value
pub narrow_sign : (x : Float) → negative (narrow_of x) ≡ negative x
unfolding narrow_of
narrow_sign nan = refl
narrow_sign (inf s) = refl
narrow_sign (fin s m e) = round_sign binary32 s (m * up e) (down e)
