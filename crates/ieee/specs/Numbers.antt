-- Facts of whole numbers that more than one of the float laws leans on: tests that give the same answer, factors, powers of two and numbers
-- of binary digits. No float occurs here.
-- Assumes nothing.
use Rattle.std.specs.Prelude.{◌≡◌, refl, Bool, true, false, not, ◌&&◌, ◌⊎◌, ℕ, ◌+◌, ◌-◌, ◌*◌, ◌^◌, ◌<◌, ◌≤◌, T, ltb, eqb}
use Rattle.std.proofs.Common.{sym, ap, ◌∙◌, subst, inl, inr, le_trans, le_of_eq, lt_of_lt_of_le, lt_of_not-le, not-le_of_lt, lt_irrefl, zero-mul}
use Rattle.std.proofs.Common.{one-mul, mul_comm, mul_assoc, mul_left_comm, mul-pos, mul-le-mul_right, le-mul_of_pos_right, mul-lt-mul_of_pos_right}
use Rattle.std.proofs.Common.{lt_of_mul-lt-mul_right, arith, ltb→lt, lt→ltb, nltb→le, eqb→eq, pow-add, pow_pos, pow_mono}
use Rattle.std.proofs.Math.Nat.{mul-mul-mul_comm, mul-sub, eq_of_mul-eq-mul_right}
use Rattle.std.specs.Float.Ieee.{size}
use Rattle.std.specs.Float.Ieee.Digits.{back, size-lt}
use Rattle.std.specs.Float.Ieee.Fits.{eq→eqb}

-- ---- tests
pub same_bool : (x y : Bool) → (T x → T y) → (T y → T x) → x ≡ y
same_bool true true f g = refl
same_bool true false f g = absurd (f tt)
same_bool false true f g = absurd (g tt)
same_bool false false f g = refl

-- three tests that are passed together
pub three : (a b c : Bool) → T (a && b && c) → T a × T b × T c
three true true c t = (tt, tt, t)
three true false c t = absurd t
three false b c t = absurd t

pub split : (n m : ℕ) → (n < m) ⊎ (m ≤ n)
split n m = go (ltb n m) (ltb→lt n m) (nltb→le n m)
  where
    go : (b : Bool) → (T b → n < m) → (T (not b) → m ≤ n) → (n < m) ⊎ (m ≤ n)
    go true x y = inl (x tt)
    go false x y = inr (y tt)

-- tests on two numbers, both multiplied
pub ltb_scale : (a b c : ℕ) → 0 < c → ltb (a * c) (b * c) ≡ ltb a b
ltb_scale a b c C =
    same_bool (ltb (a * c) (b * c)) (ltb a b)
    (λ t. lt→ltb a b (lt_of_mul-lt-mul_right c (ltb→lt (a * c) (b * c) t)))
    (λ t. lt→ltb (a * c) (b * c) (mul-lt-mul_of_pos_right (ltb→lt a b t) C))

pub eqb_same : (a b c d : ℕ) → (a ≡ b → c ≡ d) → (c ≡ d → a ≡ b) → eqb a b ≡ eqb c d
eqb_same a b c d f g = same_bool (eqb a b) (eqb c d) (λ t. eq→eqb (f (eqb→eq a b t))) (λ t. eq→eqb (g (eqb→eq c d t)))

pub eqb_scale : (a b c : ℕ) → 0 < c → eqb (a * c) (b * c) ≡ eqb a b
eqb_scale a b c C = eqb_same (a * c) (b * c) a b (eq_of_mul-eq-mul_right c C a b) (ap (λ (z : ℕ). z * c))

pub zero_scale : (a c : ℕ) → 0 < c → eqb (a * c) 0 ≡ eqb a 0
zero_scale a c C = ap (λ (z : ℕ). eqb (a * c) z) (sym (zero-mul c)) ∙ eqb_scale a 0 c C

-- ---- factors
pub sub_scale : (a b c : ℕ) → a * c - b * c ≡ (a - b) * c
sub_scale a b c = (λ i. mul_comm a c i - mul_comm b c i) ∙ sym (mul-sub c a b) ∙ mul_comm c (a - b)

pub le_multiple : (n x : ℕ) → 0 < n → x ≤ n * x
le_multiple n x h = le_trans (le_of_eq (sym (one-mul x))) (mul-le-mul_right x h)

pub no_product : (a d : ℕ) → 0 < a → 0 < d → a * d ≡ 0 → ⊥
no_product a d p q e = lt_irrefl 0 (subst (λ (x : ℕ). 0 < x) e (mul-pos p q))

pub four_squares : (a : ℕ) → 2 * a * (2 * a) ≡ 4 * (a * a)
four_squares a = simp (mul_assoc, mul_comm, mul_left_comm) (omega arith)

pub le_of_next : {a b : ℕ} → a < b + 1 → a ≤ b
le_of_next {a} {b} h = omega arith

-- ---- powers of two
pub shift : (n p d : ℕ) → n * 2 ^ p * 2 ^ d ≡ n * 2 ^ (p + d)
shift n p d = mul_assoc n (2 ^ p) (2 ^ d) ∙ ap (λ (z : ℕ). n * z) (sym (pow-add 2 p d))

pub powers : (a i b j : ℕ) → a * 2 ^ i * (b * 2 ^ j) ≡ a * b * 2 ^ (i + j)
powers a i b j = mul-mul-mul_comm a (2 ^ i) b (2 ^ j) ∙ ap (λ (z : ℕ). a * b * z) (sym (pow-add 2 i j))

-- n units of 2 ^ -u are so many of the finer unit 2 ^ -v
pub fine : (n u v : ℕ) → u ≤ v → n * 2 ^ v ≡ n * 2 ^ (v - u) * 2 ^ u
fine n u v h = ap (λ (z : ℕ). n * 2 ^ z) (sym (back v u h)) ∙ sym (shift n (v - u) u)

pub grows : (n p : ℕ) → n ≤ n * 2 ^ p
grows n p = le-mul_of_pos_right n (pow_pos p)

-- ---- the number of binary digits
pub size_gt : (n j : ℕ) → 2 ^ j ≤ n → j < size n
size_gt n j h = lt_of_not-le (λ (g : size n ≤ j). not-le_of_lt (lt_of_lt_of_le (size-lt n) (pow_mono g)) h)
