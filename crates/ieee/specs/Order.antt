-- The order of floats: what a comparison answers at a NaN, that away from NaN the order is total, and that a quotient by a number above zero
-- keeps it. So the greatest of some sums, each divided by the same number, is that of the sums: a shift that beats by its quotient beats by
-- its sum.
-- Assumes nothing.
use Rattle.std.specs.Prelude.{◌≡◌, refl, Bool, true, false, not, ◌&&◌, ◌||◌, cond, ℕ, zero, suc, ◌+◌, ◌*◌, ◌^◌, ◌<◌, ◌≤◌, ℤ, pos, T, ltb, leb, eqb, Float}
use Rattle.std.proofs.Common.{sym, ap, ◌∙◌, subst, true≢false, le_refl, zero-mul, zero-add, add-zero, add_comm, mul-pos, mul_comm, mul-le-mul_right}
use Rattle.std.proofs.Common.{le_of_mul-le-mul_right, arith, ltb→lt, lt→ltb, leb→le, le→leb, eqb→eq, T_not, lit<}
use Rattle.std.proofs.lemmas.Bool.{false≢true}
use Rattle.std.proofs.Math.Nat.{mul-mul-mul_comm}
use Rattle.std.proofs.Math.Arith.{lt→nleb, le-zero}
use Rattle.std.proofs.Math.Dec.{nleb→lt, leb-zero, leb-suc-zero, leb-suc-suc, eqb-suc-zero, eqb-suc-suc, not_T}
use Rattle.std.specs.Float.{nan, inf, fin, Format}
use Rattle.std.specs.Float.Ieee.{up, down, round, below, level, neg, div, lt, le, eq, ne, is_nan}
use Rattle.std.specs.Float.Ieee.Fits.{down_pos, eq→eqb, and_l, and_r, and_i}
use Rattle.std.specs.Float.Ieee.Compare.{differs_from_itself}
use Rattle.std.specs.Float.Ieee.Order.{round_mono}
use Rattle.std.specs.Float.Ieee.Positive.{positive, num, den, den_pos, own_value, value_pos}
use Rattle.ieee.specs.Numbers.{same_bool, eqb_same}
use Rattle.ieee.specs.Constants.{lowest, lowest_is}
use Rattle.ieee.specs.Signs.{negative, unlike_false, round_neg}
use Rattle.ieee.specs.Zeros.{round_zero}
use Rattle.ieee.specs.Times.{most, most_scale}

-- ---- at a NaN: no comparison holds but "unequal"
pub nan_lt : (x : Float) → lt nan x ≡ false
unfolding lt
nan_lt x = refl

pub lt_nan : (x : Float) → lt x nan ≡ false
unfolding lt
lt_nan nan = refl
lt_nan (inf s) = refl
lt_nan (fin s m e) = refl

pub nan_le : (x : Float) → le nan x ≡ false
unfolding le
nan_le x = refl

pub le_nan : (x : Float) → le x nan ≡ false
unfolding le
le_nan nan = refl
le_nan (inf s) = refl
le_nan (fin s m e) = refl

pub nan_ne : (x : Float) → ne nan x ≡ true
unfolding ne
nan_ne x = refl

-- what does not differ from itself is none
pub no_nan : (x : Float) → ne x x ≡ false → T (not (is_nan x))
unfolding is_nan
no_nan nan e = subst T (sym (nan_ne nan) ∙ e) tt
no_nan (inf s) e = tt
no_nan (fin s m e) d = tt

false_of : (b : Bool) → (T b → ⊥) → b ≡ false
false_of true f = absurd (f tt)
false_of false f = refl

pub ne_self : (x : Float) → ne x x ≡ is_nan x
unfolding ne is_nan
ne_self nan = refl
ne_self (inf true) = refl
ne_self (inf false) = refl
ne_self (fin s m e) = false_of (ne (fin s m e) (fin s m e)) (λ t. false≢true (ap is_nan (differs_from_itself (fin s m e) t)))

-- what is compared is no NaN
number_l : (x y : Float) → T (le x y) → is_nan x ≡ false
unfolding le is_nan
number_l nan y h = absurd h
number_l (inf s) y h = refl
number_l (fin s m e) y h = refl

number_r : (x y : Float) → T (le x y) → is_nan y ≡ false
unfolding is_nan
number_r x nan h = absurd (subst T (le_nan x) h)
number_r x (inf s) h = refl
number_r x (fin s m e) h = refl

-- ---- tests on natural numbers
ltb_is : (i j : ℕ) → ltb i j ≡ not (leb j i)
ltb_is i j = same_bool (ltb i j) (not (leb j i)) (λ t. lt→nleb j i (ltb→lt i j t)) (λ t. lt→ltb i j (nleb→lt j i t))

leb_is : (i j : ℕ) → (ltb i j || eqb i j) ≡ leb i j
leb_is zero zero = refl
leb_is zero (suc j) = rw (leb-suc-suc, leb-zero) (sym (leb-zero (suc j)))
leb_is (suc i) zero = simp (leb-suc-zero, eqb-suc-zero)
leb_is (suc i) (suc j) = simp (leb-suc-suc, eqb-suc-suc) (leb_is i j)

and_true : (b : Bool) → (b && true) ≡ b
and_true true = refl
and_true false = refl

eqb_sym : (a b : ℕ) → eqb a b ≡ eqb b a
eqb_sym a b = eqb_same a b b a sym sym

both_zero : (a b : ℕ) → (eqb a b && eqb a 0) ≡ eqb (a + b) 0
both_zero a b = same_bool (eqb a b && eqb a 0) (eqb (a + b) 0)
    (λ t. omega (arith, eq→eqb, eqb→eq a b (and_l (eqb a b) (eqb a 0) t), eqb→eq a 0 (and_r (eqb a b) (eqb a 0) t)))
    (λ t. and_i (eqb a b) (eqb a 0) (omega (arith, eq→eqb, eqb→eq)) (omega (arith, eq→eqb, eqb→eq)))

-- ---- two finite values, ±x / p and ±y / q. A negative one is brought to the other side, so that all signs are one case: x / p ≤ y / q says that
-- its left side, over p * q, is at most its right side, which is the left side of y / q ≤ x / p.
abbrev left : Bool → ℕ → ℕ → Bool → ℕ → ℕ → ℕ
left s x p t y q = cond s 0 x * q + cond t y 0 * p

below_is : (s t : Bool) (x p y q : ℕ) → below s (x * q) t (y * p) ≡ ltb (left s x p t y q) (left t y q s x p)
below_is false false x p y q = simp (zero-mul, add-zero)
below_is false true x p y q = simp (zero-mul, leb-suc-zero)
below_is true false x p y q = simp (zero-mul, add_comm (y * p) (x * q))
below_is true true x p y q = simp (zero-mul, zero-add)

level_is : (s t : Bool) (x p y q : ℕ) → level s (x * q) t (y * p) ≡ eqb (left s x p t y q) (left t y q s x p)
level_is false false x p y q = simp (zero-mul, add-zero, and_true)
level_is false true x p y q = simp zero-mul (both_zero (x * q) (y * p))
level_is true false x p y q = simp (zero-mul, add_comm (y * p) (x * q)) (both_zero (x * q) (y * p) ∙ eqb_sym (x * q + y * p) 0)
level_is true true x p y q = simp (zero-mul, zero-add, and_true) (eqb_sym (x * q) (y * p))

most_is : (s t : Bool) (x p y q : ℕ) → most s (x * q) t (y * p) ≡ leb (left s x p t y q) (left t y q s x p)
most_is s t x p y q = (λ i. below_is s t x p y q i || level_is s t x p y q i) ∙ leb_is (left s x p t y q) (left t y q s x p)

most→le : (s t : Bool) (x p y q : ℕ) → T (most s (x * q) t (y * p)) → left s x p t y q ≤ left t y q s x p
most→le s t x p y q h = leb→le (left s x p t y q) (left t y q s x p) (subst T (most_is s t x p y q) h)

-- three fractions, each as a difference
through : (x x' y y' z z' p q w : ℕ) → 0 < q → x * q + y' * p ≤ y * p + x' * q → y * w + z' * q ≤ z * q + y' * w → x * w + z' * p ≤ z * p + x' * w
through x x' y y' z z' p q w Q h k = le_of_mul-le-mul_right (omega (arith, mul-le-mul_right w h, mul-le-mul_right p k)) Q

most_trans : (s t r : Bool) (x p y q z w : ℕ) → 0 < q → T (most s (x * q) t (y * p)) → T (most t (y * w) r (z * q)) → T (most s (x * w) r (z * p))
most_trans s t r x p y q z w Q h k =
    subst T (sym (most_is s r x p z w)) (le→leb (left s x p r z w) (left r z w s x p)
    (through (cond s 0 x) (cond s x 0) (cond t 0 y) (cond t y 0) (cond r 0 z) (cond r z 0) p q w Q (most→le s t x p y q h) (most→le t r y q z w k)))

-- a change of both signs turns the sides around
cond_not : (s : Bool) (a b : ℕ) → cond (not s) a b ≡ cond s b a
cond_not true a b = refl
cond_not false a b = refl

left_not : (s t : Bool) (x p y q : ℕ) → left (not s) x p (not t) y q ≡ left t y q s x p
left_not s t x p y q = (λ i. cond_not s 0 x i * q + cond_not t y 0 i * p) ∙ add_comm (cond s x 0 * q) (cond t 0 y * p)

most_not : (s t : Bool) (x p y q : ℕ) → most (not t) (y * p) (not s) (x * q) ≡ most s (x * q) t (y * p)
most_not s t x p y q = most_is (not t) (not s) y q x p ∙ (λ i. leb (left_not t s y q x p i) (left_not s t x p y q i)) ∙ sym (most_is s t x p y q)

-- ---- elsewhere the order is total
pub lt_not_le : (x y : Float) → is_nan x ≡ false → is_nan y ≡ false → lt x y ≡ not (le y x)
unfolding lt le is_nan
lt_not_le nan y p q = absurd (true≢false p)
lt_not_le (inf s) nan p q = absurd (true≢false q)
lt_not_le (fin s m e) nan p q = absurd (true≢false q)
lt_not_le (inf true) (inf true) p q = refl
lt_not_le (inf true) (inf false) p q = refl
lt_not_le (inf false) (inf true) p q = refl
lt_not_le (inf false) (inf false) p q = refl
lt_not_le (inf true) (fin t n d) p q = refl
lt_not_le (inf false) (fin t n d) p q = refl
lt_not_le (fin s m e) (inf true) p q = refl
lt_not_le (fin s m e) (inf false) p q = refl
lt_not_le (fin s m e) (fin t n d) p q =
    let x = m * up e in
    let y = n * up d in
    below_is s t x (down e) y (down d) ∙ ltb_is (left s x (down e) t y (down d)) (left t y (down d) s x (down e))
    ∙ ap not (sym (most_is t s y (down d) x (down e)))

-- the same as steps of a proof
lt_le : (x y : Float) → T (lt x y) → T (le x y)
unfolding le
lt_le x y = or_l (lt x y) (eq x y)
  where
    or_l : (a b : Bool) → T a → T (a || b)
    or_l true b t = tt
    or_l false b t = absurd t

lt_no_le : (x y : Float) → T (lt x y) → T (le y x) → ⊥
lt_no_le x y h = T_not (le y x) (subst T (lt_not_le x y (number_l x y (lt_le x y h)) (number_r x y (lt_le x y h))) h)

lt_of_no_le : (x y : Float) → is_nan x ≡ false → is_nan y ≡ false → (T (le y x) → ⊥) → T (lt x y)
lt_of_no_le x y p q f = subst T (sym (lt_not_le x y p q)) (not_T (le y x) f)

pub lt_asym : (x y : Float) → T (lt x y) → lt y x ≡ false
lt_asym x y h = false_of (lt y x) (λ k. lt_no_le x y h (lt_le y x k))

-- ---- chains: of all of them, the one with ≤ alone is enough
bottom : (z : Float) → is_nan z ≡ false → T (le (inf true) z)
unfolding le is_nan
bottom nan p = absurd (true≢false p)
bottom (inf true) p = tt
bottom (inf false) p = tt
bottom (fin t n d) p = tt

top : (z : Float) → is_nan z ≡ false → T (le z (inf false))
unfolding le is_nan
top nan p = absurd (true≢false p)
top (inf true) p = tt
top (inf false) p = tt
top (fin t n d) p = tt

-- what is no less than +inf is +inf
at_top : (z : Float) → T (le (inf false) z) → inf false ≡ z
unfolding le
at_top nan h = absurd h
at_top (inf true) h = absurd h
at_top (inf false) h = refl
at_top (fin t n d) h = absurd h

le_trans : (x y z : Float) → T (le x y) → T (le y z) → T (le x z)
unfolding le
le_trans nan y z h k = absurd h
le_trans (inf true) y z h k = bottom z (number_r y z k)
le_trans (inf false) y z h k = subst (λ (v : Float). T (le v z)) (sym (at_top y h)) k
le_trans (fin s m e) nan z h k = absurd h
le_trans (fin s m e) (inf true) z h k = absurd h
le_trans (fin s m e) (inf false) z h k = subst (λ (v : Float). T (le (fin s m e) v)) (at_top z k) h
le_trans (fin s m e) (fin t n d) nan h k = absurd k
le_trans (fin s m e) (fin t n d) (inf true) h k = absurd k
le_trans (fin s m e) (fin t n d) (inf false) h k = tt
le_trans (fin s m e) (fin t n d) (fin r l c) h k = most_trans s t r (m * up e) (down e) (n * up d) (down d) (l * up c) (down c) (down_pos d) h k

pub lt_le_trans : (x y z : Float) → T (lt x y) → T (le y z) → T (lt x z)
lt_le_trans x y z h k = lt_of_no_le x z (number_l x y (lt_le x y h)) (number_r y z k) (λ g. lt_no_le x y h (le_trans y z x k g))

pub le_lt_trans : (x y z : Float) → T (le x y) → T (lt y z) → T (lt x z)
le_lt_trans x y z h k = lt_of_no_le x z (number_l x y h) (number_r y z (lt_le y z k)) (λ g. lt_no_le y z k (le_trans z x y g h))

-- what beats something is no NaN
pub greater_number : (x y : Float) → T (lt x y) → is_nan y ≡ false
greater_number x y h = number_r x y (lt_le x y h)

-- a number is at or below itself
pub le_self : (x : Float) → is_nan x ≡ false → T (le x x)
le_self x n = by (le x x) (lt_not_le x x n n)
  where
    by : (b : Bool) → lt x x ≡ not b → T b
    by true e = tt
    by false e = absurd (true≢false (sym e ∙ lt_asym x x (subst T (sym e) tt)))

pub lt_trans : (x y z : Float) → T (lt x y) → T (lt y z) → T (lt x z)
lt_trans x y z h k = lt_le_trans x y z h (lt_le y z k)

-- ---- a change of sign turns the order around
neg_le : (x y : Float) → T (le x y) → T (le (neg y) (neg x))
unfolding le neg
neg_le nan y h = absurd h
neg_le (inf true) nan h = absurd h
neg_le (inf true) (inf true) h = tt
neg_le (inf true) (inf false) h = tt
neg_le (inf true) (fin t n d) h = tt
neg_le (inf false) y h = subst (λ (v : Float). T (le (neg v) (inf true))) (at_top y h) tt
neg_le (fin s m e) nan h = absurd h
neg_le (fin s m e) (inf true) h = absurd h
neg_le (fin s m e) (inf false) h = tt
neg_le (fin s m e) (fin t n d) h = subst T (sym (most_not s t (m * up e) (down e) (n * up d) (down d))) h

-- ---- fractions with signs, rounded
-- two zeros are level, whatever their signs
round_zeros : (f : Format) (s t : Bool) (b d : ℕ) → 0 < b → 0 < d → T (le (round f s 0 b) (round f t 0 d))
unfolding le
round_zeros f s t b d B D = rw (round_zero f s b B, round_zero f t d D) (zeros s t)
  where
    zeros : (s t : Bool) → T (le (fin s 0 (pos 0)) (fin t 0 (pos 0)))
    zeros true true = tt
    zeros true false = tt
    zeros false true = tt
    zeros false false = tt

round_anti : (f : Format) (a b c d : ℕ) → 0 < b → 0 < d → c * b ≤ a * d → T (le (round f true a b) (round f true c d))
round_anti f a b c d B D h =
    rw (sym (round_neg f false a b), sym (round_neg f false c d)) (neg_le (round f false c d) (round f false a b) (round_mono f c d a b D B h))

round_number : (f : Format) (s : Bool) (a b : ℕ) → 0 < b → is_nan (round f s a b) ≡ false
round_number f false a b B = number_l (round f false a b) (round f false a b) (round_mono f a b a b B B (le_refl (a * b)))
round_number f true a b B = number_l (round f true a b) (round f true a b) (round_anti f a b a b B B (le_refl (a * b)))

rounds : (f : Format) (s t : Bool) (a b c d : ℕ) → 0 < b → 0 < d → T (most s (a * d) t (c * b)) → T (le (round f s a b) (round f t c d))
rounds f false false a b c d B D h = round_mono f a b c d B D (omega (arith, most→le false false a b c d h))
rounds f true true a b c d B D h = round_anti f a b c d B D (omega (arith, most→le true true a b c d h))
rounds f true false a b c d B D h =
    le_trans (round f true a b) (round f true 0 b) (round f false c d) (round_anti f a b 0 b B B (omega arith))
    (le_trans (round f true 0 b) (round f false 0 d) (round f false c d) (round_zeros f true false b d B D) (round_mono f 0 d c d D D (omega arith)))
rounds f false true a b c d B D h =
    let z : a * d + c * b ≤ 0 * b + 0 * d = most→le false true a b c d h in
    rw (nil a d D (omega arith), nil c b B (omega arith)) (round_zeros f false true b d B D)
  where
    nil : (a d : ℕ) → 0 < d → a * d ≤ 0 * d → a ≡ 0
    nil a d D h = le-zero (le_of_mul-le-mul_right h D)

-- ---- a quotient by a number above zero
inf_over : (f : Format) (s : Bool) (d : Float) → T (positive d) → div f (inf s) d ≡ inf s
unfolding div
inf_over f s nan p = absurd p
inf_over f s (inf t) p = absurd p
inf_over f s (fin true n g) p = absurd p
inf_over f s (fin false n g) p = ap inf (unlike_false s)

fin_over : (f : Format) (s : Bool) (m : ℕ) (e : ℤ) (d : Float) → T (positive d) → div f (fin s m e) d ≡ round f s (m * up e * den d) (num d * down e)
unfolding div
fin_over f s m e nan p = absurd p
fin_over f s m e (inf t) p = absurd p
fin_over f s m e (fin true n g) p = absurd p
fin_over f s m e (fin false zero g) p = absurd p
fin_over f s m e (fin false (suc n) g) p = rw (eqb-suc-zero n, unlike_false s)

num_pos : (d : Float) → T (positive d) → 0 < num d
num_pos d p = value_pos d (num d) (den d) p (den_pos d) (own_value d p)

pub quotient_nan : (f : Format) (x d : Float) → T (positive d) → is_nan (div f x d) ≡ is_nan x
unfolding div is_nan
quotient_nan f nan d p = refl
quotient_nan f (inf s) d p = ap is_nan (inf_over f s d p)
quotient_nan f (fin s m e) d p = ap is_nan (fin_over f s m e d p) ∙ round_number f s (m * up e * den d) (num d * down e) (mul-pos (num_pos d p) (down_pos e))

pub quotient_mono : (f : Format) (x y d : Float) → T (positive d) → T (le x y) → T (le (div f x d) (div f y d))
unfolding le
quotient_mono f nan y d p h = absurd h
quotient_mono f (inf true) y d p h = rw (inf_over f true d p) (bottom (div f y d) (quotient_nan f y d p ∙ number_r (inf true) y h))
quotient_mono f (inf false) y d p h = subst (λ (v : Float). T (le (div f (inf false) d) (div f v d))) (at_top y h) (rw (inf_over f false d p) tt)
quotient_mono f (fin s m e) nan d p h = absurd h
quotient_mono f (fin s m e) (inf true) d p h = absurd h
quotient_mono f (fin s m e) (inf false) d p h =
    rw (inf_over f false d p) (top (div f (fin s m e) d) (quotient_nan f (fin s m e) d p ∙ number_l (fin s m e) (inf false) h))
quotient_mono f (fin s m e) (fin t n g) d p h =
    let x = m * up e in
    let y = n * up g in
    let N = num_pos d p in
    rw (fin_over f s m e d p, fin_over f t n g d p)
    (rounds f s t (x * den d) (num d * down e) (y * den d) (num d * down g) (mul-pos N (down_pos e)) (mul-pos N (down_pos g))
    (rw (sym (spread x (down g)), sym (spread y (down e)), most_scale s t (x * down g) (y * down e) (den d * num d) (mul-pos (den_pos d) N)) h))
  where
    -- the divisor is a common factor of both sides
    spread : (x q : ℕ) → x * q * (den d * num d) ≡ x * den d * (num d * q)
    spread x q = mul-mul-mul_comm x q (den d) (num d) ∙ ap (λ (z : ℕ). x * den d * z) (mul_comm q (num d))

pub quotient_beats : (f : Format) (x y d : Float) → T (positive d) → T (lt (div f x d) (div f y d)) → T (lt x y)
quotient_beats f x y d p h =
    let a = div f x d in
    let b = div f y d in
    let k : T (le a b) = lt_le a b h in
    lt_of_no_le x y (sym (quotient_nan f x d p) ∙ number_l a b k) (sym (quotient_nan f y d p) ∙ number_r a b k)
    (λ g. lt_no_le a b h (quotient_mono f y x d p g))

-- ---- a number that has no minus sign beats `f32::MIN`
pub lowest_loses : (y : Float) → is_nan y ≡ false → negative y ≡ false → T (lt lowest y)
unfolding lt is_nan
lowest_loses nan n p = absurd (true≢false n)
lowest_loses (inf true) n p = absurd (true≢false p)
lowest_loses (inf false) n p = rw lowest_is tt
lowest_loses (fin true m d) n p = absurd (true≢false p)
lowest_loses (fin false m d) n p =
    let some : 0 < 16777215 * 2 ^ 104 = lit< tt in
    rw lowest_is (lt→ltb 0 (16777215 * 2 ^ 104 * down d + m * up d * 1) (still _ (m * up d * 1) (mul-pos some (down_pos d))))
  where
    still : (a b : ℕ) → 0 < a → 0 < a + b
    still a b h = omega arith
