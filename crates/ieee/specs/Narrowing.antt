-- An f64 of m * 2 ^ k units of 2 ^ -1074, rounded to an f32: m / 2 ^ d rounded to a whole number, in units of 2 ^ (K - 149), with its pattern.
-- Each case that `narrow_bits` tells apart is a law, and so is its rounding with no branch.
-- Assumes nothing.
use Rattle.std.specs.Prelude.{◌≡◌, refl, Bool, true, false, not, cond, ◌⊎◌, T}
use Rattle.std.proofs.Common.{sym, ap, ◌∙◌, subst, inl, inr, le_trans, le_of_eq, lt_of_lt_of_le, eq-or-lt_of_le, mul-pos, mul-le-mul}
use Rattle.std.proofs.Common.{mul-le-mul_right, le-div_iff_mul-le, div-lt_iff_lt-mul, mod-eq_of_lt, arith, leb→le, eqb→eq, lit<, lit≤, pow-add}
use Rattle.std.proofs.Common.{pow_pos, pow_mono, shl_lt}
use Prim.Native.Nat.{ℕ, zero, suc, ◌+◌, ◌-◌, ◌*◌, ◌/◌, ◌%◌, ◌^◌, ◌≤◌, ◌<◌, compare, Ordering}
use Rattle.std.proofs.Math.Nat.{div-eq_of_lt, div-eq_of_lt-le, mul-add-div_right, mod-lt}
use Rattle.std.proofs.lemmas.Nat.{div-add-mod'}
use Rattle.std.proofs.Math.Dec.{is_le, compare_is_eq, nleb→lt}
use Rattle.std.specs.Float.{inf, Format, binary32, binary64}
use Rattle.std.specs.Float.Ieee.{prec, low, size, nearest, units, round, of_bits}
use Rattle.std.specs.Float.Ieee.Digits.{size-le}
use Rattle.std.specs.Float.Ieee.Fits.{eq→eqb, nearest-le, round_is}
use Rattle.std.specs.Float.Ieee.Nearest.{closest, closest_same, nearest-ge}
use Rattle.ieee.specs.Numbers.{shift, size_gt}
use Rattle.ieee.specs.Narrow.{narrow_of}
use Rattle.ieee.specs.Inner.{Narrowed}
use Rattle.ieee.specs.Patterns.{encode, encode_low, encode_carry, units_over, low_value, mid_value}
use Rattle.ieee.specs.NarrowGain.{narrow_of_value}

-- ---- `compare` from what is compared
pub compare_is : (a b : ℕ) (p : Ordering) → (T (is_le (compare a b)) → a ≤ b) → (T (not (is_le (compare a b))) → b < a)
    → (T (compare_is_eq (compare a b)) → a ≡ b) → (a ≡ b → T (compare_is_eq (compare a b)))
    → (p ≡ Ordering.lt → a < b) → (p ≡ Ordering.eq → a ≡ b) → (p ≡ Ordering.gt → b < a) → compare a b ≡ p
compare_is a b p = go (compare a b) p
  where
    no : a < b → b < a → ⊥
    no h k = omega arith

    off : a < b → a ≡ b → ⊥
    off h k = omega arith

    off' : b < a → a ≡ b → ⊥
    off' h k = omega arith

    cant : a ≤ b → b < a → ⊥
    cant h k = omega arith

    go : (o p : Ordering) → (T (is_le o) → a ≤ b) → (T (not (is_le o)) → b < a) → (T (compare_is_eq o) → a ≡ b) → (a ≡ b → T (compare_is_eq o))
        → (p ≡ Ordering.lt → a < b)
        → (p ≡ Ordering.eq → a ≡ b) → (p ≡ Ordering.gt → b < a) → o ≡ p
    go Ordering.lt Ordering.lt h k e n x y z = refl
    go Ordering.lt Ordering.eq h k e n x y z = absurd (n (y refl))
    go Ordering.lt Ordering.gt h k e n x y z = absurd (cant (h tt) (z refl))
    go Ordering.eq Ordering.lt h k e n x y z = absurd (off (x refl) (e tt))
    go Ordering.eq Ordering.eq h k e n x y z = refl
    go Ordering.eq Ordering.gt h k e n x y z = absurd (off' (z refl) (e tt))
    go Ordering.gt Ordering.lt h k e n x y z = absurd (no (x refl) (k tt))
    go Ordering.gt Ordering.eq h k e n x y z = absurd (off' (k tt) (y refl))
    go Ordering.gt Ordering.gt h k e n x y z = refl

pub compare_lt : (a b : ℕ) → a < b → compare a b ≡ Ordering.lt
compare_lt a b h = compare_is a b Ordering.lt (leb→le a b) (nleb→lt a b) (eqb→eq a b) eq→eqb (λ _. h) (λ e. absurd (lt_eq e)) (λ e. absurd (lt_gt e))
  where
    lt_eq : Ordering.lt ≡ Ordering.eq → ⊥
    lt_eq e = let z : ◌≡◌ {A = ℕ} 0 1 = cc in omega arith

    lt_gt : Ordering.lt ≡ Ordering.gt → ⊥
    lt_gt e = let z : ◌≡◌ {A = ℕ} 0 1 = cc in omega arith

pub compare_eq : (a b : ℕ) → a ≡ b → compare a b ≡ Ordering.eq
compare_eq a b h = compare_is a b Ordering.eq (leb→le a b) (nleb→lt a b) (eqb→eq a b) eq→eqb (λ e. absurd (eq_lt e)) (λ _. h) (λ e. absurd (eq_gt e))
  where
    eq_lt : Ordering.eq ≡ Ordering.lt → ⊥
    eq_lt e = let z : ◌≡◌ {A = ℕ} 0 1 = cc in omega arith

    eq_gt : Ordering.eq ≡ Ordering.gt → ⊥
    eq_gt e = let z : ◌≡◌ {A = ℕ} 0 1 = cc in omega arith

pub compare_gt : (a b : ℕ) → b < a → compare a b ≡ Ordering.gt
compare_gt a b h = compare_is a b Ordering.gt (leb→le a b) (nleb→lt a b) (eqb→eq a b) eq→eqb (λ e. absurd (gt_lt e)) (λ e. absurd (gt_eq e)) (λ _. h)
  where
    gt_lt : Ordering.gt ≡ Ordering.lt → ⊥
    gt_lt e = let z : ◌≡◌ {A = ℕ} 0 1 = cc in omega arith

    gt_eq : Ordering.gt ≡ Ordering.eq → ⊥
    gt_eq e = let z : ◌≡◌ {A = ℕ} 0 1 = cc in omega arith

-- ---- `round` by the digits that it drops
pub round_at : (f : Format) (s : Bool) (a den m u K : ℕ) → 0 < den → 0 < u → size (a * 2 ^ low f / den) - prec f ≡ K → a * 2 ^ low f * u ≡ m * (den * 2 ^ K)
    → round f s a den ≡ units f s (closest m u) K
round_at f s a den m u K D U z e =
    round_is f s a den
    ∙ ap (λ (k : ℕ). units f s (closest (a * 2 ^ low f) (den * 2 ^ k)) k) z
    ∙ ap (λ (q : ℕ). units f s q K) (closest_same (a * 2 ^ low f) (den * 2 ^ K) m u (mul-pos D (pow_pos K)) U e)

-- how many, from bounds on the fraction
pub dropped : (p n den K : ℕ) → 0 < den → 0 < p → n < 2 ^ (p + K) * den → (K ≡ 0) ⊎ (2 ^ (p - 1 + K) * den ≤ n) → size (n / den) - p ≡ K
dropped p n den K D P hi lo = go lo
  where
    S : size (n / den) ≤ p + K
    S = size-le (n / den) (p + K) ((div-lt_iff_lt-mul D).1 hi)

    none : (z p K : ℕ) → z ≤ p + K → K ≡ 0 → z - p ≡ K
    none z p K a b = omega arith

    all : (z p K : ℕ) → 0 < p → z ≤ p + K → p - 1 + K < z → z - p ≡ K
    all z p K P a b = omega arith

    go : (K ≡ 0) ⊎ (2 ^ (p - 1 + K) * den ≤ n) → size (n / den) - p ≡ K
    go (inl e) = none (size (n / den)) p K S e
    go (inr l) = all (size (n / den)) p K P S (size_gt (n / den) (p - 1 + K) ((le-div_iff_mul-le D).1 l))

-- ---- m * 2 ^ k units of 2 ^ -1074
powers : (m k d K : ℕ) → k + 149 + d ≡ 1074 + K → m * 2 ^ k * 2 ^ 149 * 2 ^ d ≡ m * (2 ^ 1074 * 2 ^ K)
powers m k d K e =
    ap (λ (x : ℕ). x * 2 ^ d) (shift m k 149) ∙ shift m (k + 149) d ∙ ap (λ (x : ℕ). m * x) (ap (λ (x : ℕ). 2 ^ x) e ∙ pow-add 2 1074 K)

-- below 2 ^ (i + 1074), and at least that
under : (m k i : ℕ) → m < 2 ^ 53 → k + 202 ≤ i + 1074 → m * 2 ^ k * 2 ^ 149 < 2 ^ i * 2 ^ 1074
under m k i h l =
    subst (λ (x : ℕ). x < 2 ^ i * 2 ^ 1074) (sym (shift m k 149))
    (lt_of_lt_of_le (shl_lt 53 (k + 149) h) (le_trans (pow_mono (sum k i l)) (le_of_eq (pow-add 2 i 1074))))
  where
    sum : (k i : ℕ) → k + 202 ≤ i + 1074 → 53 + (k + 149) ≤ i + 1074
    sum k i l = omega arith

over : (m k i : ℕ) → 2 ^ 52 ≤ m → i + 1074 ≤ k + 201 → 2 ^ i * 2 ^ 1074 ≤ m * 2 ^ k * 2 ^ 149
over m k i h l =
    subst (λ (x : ℕ). 2 ^ i * 2 ^ 1074 ≤ x) (sym (shift m k 149))
    (le_trans (le_of_eq (sym (pow-add 2 i 1074)))
    (le_trans (pow_mono (sum k i l)) (le_trans (le_of_eq (pow-add 2 52 (k + 149))) (mul-le-mul_right (2 ^ (k + 149)) h))))
  where
    sum : (k i : ℕ) → i + 1074 ≤ k + 201 → i + 1074 ≤ 52 + (k + 149)
    sum k i l = omega arith

pub round_normal : (s : Bool) (m k : ℕ) → 2 ^ 52 ≤ m → m < 2 ^ 53 → 896 ≤ k
    → round binary32 s (m * 2 ^ k) (2 ^ 1074) ≡ units binary32 s (closest m (2 ^ 29)) (k - 896)
round_normal s m k lo hi K =
    round_at binary32 s (m * 2 ^ k) (2 ^ 1074) m (2 ^ 29) (k - 896) (pow_pos 1074) (pow_pos 29)
    (dropped 24 (m * 2 ^ k * 2 ^ 149) (2 ^ 1074) (k - 896) (pow_pos 1074) (lit< tt) (under m k (24 + (k - 896)) hi (a k K))
    (inr (over m k (23 + (k - 896)) lo (b k K))))
    (powers m k 29 (k - 896) (c k K))
  where
    a : (k : ℕ) → 896 ≤ k → k + 202 ≤ 24 + (k - 896) + 1074
    a k h = omega arith

    b : (k : ℕ) → 896 ≤ k → 23 + (k - 896) + 1074 ≤ k + 201
    b k h = omega arith

    c : (k : ℕ) → 896 ≤ k → k + 149 + 29 ≡ 1074 + (k - 896)
    c k h = omega arith

pub round_subnormal : (s : Bool) (m k : ℕ) → m < 2 ^ 53 → k < 896 → round binary32 s (m * 2 ^ k) (2 ^ 1074) ≡ units binary32 s (closest m (2 ^ (925 - k))) 0
round_subnormal s m k hi K =
    round_at binary32 s (m * 2 ^ k) (2 ^ 1074) m (2 ^ (925 - k)) 0 (pow_pos 1074) (pow_pos (925 - k))
    (dropped 24 (m * 2 ^ k * 2 ^ 149) (2 ^ 1074) 0 (pow_pos 1074) (lit< tt) (under m k 24 hi (a k K)) (inl refl))
    (powers m k (925 - k) 0 (c k K))
  where
    a : (k : ℕ) → k < 896 → k + 202 ≤ 24 + 1074
    a k h = omega arith

    c : (k : ℕ) → k < 896 → k + 149 + (925 - k) ≡ 1074 + 0
    c k h = omega arith

-- less than a half of u rounds to nothing
pub closest_zero : (m u : ℕ) → m * 2 < u → closest m u ≡ 0
closest_zero m u h =
    let l : m < u = omega arith in
    ap (λ (x : ℕ). nearest x (compare (m % u * 2) u)) (div-eq_of_lt l)
    ∙ ap (λ (x : ℕ). nearest 0 (compare (x * 2) u)) (mod-eq_of_lt l)
    ∙ ap (nearest 0) (compare_lt (m * 2) u h)

pub round_nothing : (s : Bool) (m k : ℕ) → m < 2 ^ 53 → k < 872 → round binary32 s (m * 2 ^ k) (2 ^ 1074) ≡ units binary32 s 0 0
round_nothing s m k hi K =
    round_subnormal s m k hi (a k K)
    ∙ ap (λ (q : ℕ). units binary32 s q 0) (closest_zero m (2 ^ (925 - k)) (lt_of_lt_of_le (twice m hi) (pow_mono (b k K))))
  where
    a : (k : ℕ) → k < 872 → k < 896
    a k h = omega arith

    b : (k : ℕ) → k < 872 → 54 ≤ 925 - k
    b k h = omega arith

    twice : (m : ℕ) → m < 9007199254740992 → m * 2 < 18014398509481984
    twice m h = omega arith

-- ---- the cases of the code
abbrev E : ℕ → ℕ
E b = b / 4503599627370496

abbrev M : ℕ → ℕ
M b = b % 4503599627370496 + 4503599627370496

m_lo : (b : ℕ) → 4503599627370496 ≤ M b
m_lo b = omega arith

m_hi : (b : ℕ) → M b < 9007199254740992
m_hi b = omega arith

narrow_mid : (s : Bool) (b : ℕ) → 0 < E b → b < 9218868437227405312
    → narrow_of (of_bits binary64 (cond s 9223372036854775808 0 + b)) ≡ round binary32 s (M b * 2 ^ (E b - 1)) (2 ^ 1074)
narrow_mid s b p h =
    narrow_of_value (of_bits binary64 (cond s 9223372036854775808 0 + b)) s (M b * 2 ^ (E b - 1)) (2 ^ 1074) (pow_pos 1074)
    (mid_value s b (λ e. no (E b) p e) h)
  where
    no : (e : ℕ) → 0 < e → e ≡ 0 → ⊥
    no e p z = omega arith

pub narrow_zero : (b : ℕ) → E b < 873 → Narrowed b 0
narrow_zero b h = record { low = lit≤ tt; is = λ s. encode_low binary32 s 0 (lit< tt) (lit< tt) ∙ sym (go s (E b) refl) }
  where
    below : (b : ℕ) → b / 4503599627370496 < 873 → b < 9218868437227405312
    below b h = omega arith

    k_lt : (e k : ℕ) → e < 873 → e ≡ suc k → e - 1 < 872
    k_lt e k h z = omega arith

    small : (b : ℕ) → b % 4503599627370496 < 9007199254740992
    small b = omega arith

    pos : (e k : ℕ) → e ≡ suc k → 0 < e
    pos e k z = omega arith

    go : (s : Bool) (e : ℕ) → E b ≡ e → narrow_of (of_bits binary64 (cond s 9223372036854775808 0 + b)) ≡ units binary32 s 0 0
    go s zero z =
        narrow_of_value (of_bits binary64 (cond s 9223372036854775808 0 + b)) s (b % 4503599627370496 * 2 ^ 0) (2 ^ 1074) (pow_pos 1074) (low_value s b z)
        ∙ round_nothing s (b % 4503599627370496) 0 (small b) (lit< tt)
    go s (suc k) z = narrow_mid s b (pos (E b) k z) (below b h) ∙ round_nothing s (M b) (E b - 1) (m_hi b) (k_lt (E b) k h z)

inf_bits : (s : Bool) → of_bits binary32 (cond s 2147483648 0 + 2139095040) ≡ inf s
unfolding of_bits
inf_bits true = refl
inf_bits false = refl

from_inf : (s : Bool) → narrow_of (of_bits binary64 (cond s 9223372036854775808 0 + 9218868437227405312)) ≡ inf s
unfolding of_bits narrow_of
from_inf true = refl
from_inf false = refl

-- m / 2 ^ 29 rounded has 24 digits, or is 2 ^ 24
q_lo : (m : ℕ) → 4503599627370496 ≤ m → 8388608 ≤ closest m 536870912
q_lo m h = le_trans (a m h) (nearest-ge (m / 536870912) (compare (m % 536870912 * 2) 536870912))
  where
    a : (m : ℕ) → 4503599627370496 ≤ m → 8388608 ≤ m / 536870912
    a m h = omega arith

q_hi : (m : ℕ) → m < 9007199254740992 → closest m 536870912 ≤ 16777216
q_hi m h = le_trans (nearest-le (m / 536870912) (compare (m % 536870912 * 2) 536870912)) (a m h)
  where
    a : (m : ℕ) → m < 9007199254740992 → suc (m / 536870912) ≤ 16777216
    a m h = omega arith

pub narrow_over : (b : ℕ) → 1150 < E b → b ≤ 9218868437227405312 → Narrowed b 2139095040
narrow_over b e h = record { low = lit≤ tt; is = λ s. inf_bits s ∙ sym (go s (eq-or-lt_of_le h)) }
  where
    p : (e : ℕ) → 1150 < e → 0 < e
    p e h = omega arith

    k : (e : ℕ) → 1150 < e → 896 ≤ e - 1
    k e h = omega arith

    K : (e : ℕ) → 1150 < e → 254 ≤ e - 1 - 896
    K e h = omega arith

    go : (s : Bool) → (b ≡ 9218868437227405312) ⊎ (b < 9218868437227405312) → narrow_of (of_bits binary64 (cond s 9223372036854775808 0 + b)) ≡ inf s
    go s (inl z) = ap (λ (x : ℕ). narrow_of (of_bits binary64 (cond s 9223372036854775808 0 + x))) z ∙ from_inf s
    go s (inr l) =
        narrow_mid s b (p (E b) e) l
        ∙ round_normal s (M b) (E b - 1) (m_lo b) (m_hi b) (k (E b) e)
        ∙ units_over binary32 s (closest (M b) 536870912) (E b - 1 - 896)
        (le_trans (le_of_eq (pow-add 2 23 254)) (mul-le-mul (q_lo (M b) (m_lo b)) (pow_mono (K (E b) e))))

-- below the least normal f32
sub_hi : (m d : ℕ) → m < 9007199254740992 → 30 ≤ d → closest m (2 ^ d) ≤ 8388608
sub_hi m d h D =
    le_trans (nearest-le (m / 2 ^ d) (compare (m % 2 ^ d * 2) (2 ^ d)))
    ((div-lt_iff_lt-mul (pow_pos d)).1 (lt_of_lt_of_le h (le_trans (le_of_eq (pow-add 2 23 30)) (mul-le-mul (le_of_eq refl) (pow_mono D)))))

pub narrow_sub : (b : ℕ) → 873 ≤ E b → E b < 897 → Narrowed b (closest (M b) (2 ^ (926 - E b)))
narrow_sub b lo hi = record { low = le_trans Q (lit≤ tt); is = λ s. go s (eq-or-lt_of_le Q) ∙ sym (from s) }
  where
    q : ℕ
    q = closest (M b) (2 ^ (926 - E b))

    D : (e : ℕ) → e < 897 → 30 ≤ 926 - e
    D e h = omega arith

    Q : closest (M b) (2 ^ (926 - E b)) ≤ 8388608
    Q = sub_hi (M b) (926 - E b) (m_hi b) (D (E b) hi)

    p : (e : ℕ) → 873 ≤ e → 0 < e
    p e h = omega arith

    below : (b : ℕ) → b / 4503599627370496 < 897 → b < 9218868437227405312
    below b h = omega arith

    k : (e : ℕ) → e < 897 → e - 1 < 896
    k e h = omega arith

    same : (e : ℕ) → 873 ≤ e → 925 - (e - 1) ≡ 926 - e
    same e h = omega arith

    from : (s : Bool) → narrow_of (of_bits binary64 (cond s 9223372036854775808 0 + b)) ≡ units binary32 s (closest (M b) (2 ^ (926 - E b))) 0
    from s =
        narrow_mid s b (p (E b) lo) (below b hi)
        ∙ round_subnormal s (M b) (E b - 1) (m_hi b) (k (E b) hi)
        ∙ ap (λ (d : ℕ). units binary32 s (closest (M b) (2 ^ d)) 0) (same (E b) lo)

    go : (s : Bool) → (closest (M b) (2 ^ (926 - E b)) ≡ 8388608) ⊎ (closest (M b) (2 ^ (926 - E b)) < 8388608)
        → of_bits binary32 (cond s 2147483648 0 + closest (M b) (2 ^ (926 - E b))) ≡ units binary32 s (closest (M b) (2 ^ (926 - E b))) 0
    go s (inl z) =
        subst (λ (q : ℕ). of_bits binary32 (cond s 2147483648 0 + q) ≡ units binary32 s q 0) (sym z) (encode binary32 s 0 8388608 (lit≤ tt) (lit< tt) (lit< tt))
    go s (inr l) = encode_low binary32 s (closest (M b) (2 ^ (926 - E b))) l (lit< tt)

over_top : (s : Bool) → units binary32 s 16777216 253 ≡ inf s
over_top s = units_over binary32 s 16777216 253 (lit≤ tt)

pub narrow_normal : (b : ℕ) → 897 ≤ E b → E b ≤ 1150 → Narrowed b ((E b - 897) * 8388608 + closest (M b) 536870912)
narrow_normal b lo hi =
    record {
      low = fine (E b) q hi Q;
      is = λ s. go s q (E b - 897) (q_lo (M b) (m_lo b)) (eq-or-lt_of_le Q) (top_k (E b) hi) ∙ sym (from s);
    }
  where
    q : ℕ
    q = closest (M b) 536870912

    Q : closest (M b) 536870912 ≤ 16777216
    Q = q_hi (M b) (m_hi b)

    fine : (e q : ℕ) → e ≤ 1150 → q ≤ 16777216 → (e - 897) * 8388608 + q ≤ 2139095040
    fine e q h k = omega arith

    p : (e : ℕ) → 897 ≤ e → 0 < e
    p e h = omega arith

    below : (b : ℕ) → b / 4503599627370496 ≤ 1150 → b < 9218868437227405312
    below b h = omega arith

    k : (e : ℕ) → 897 ≤ e → 896 ≤ e - 1
    k e h = omega arith

    same : (e : ℕ) → e - 1 - 896 ≡ e - 897
    same e = omega arith

    top_k : (e : ℕ) → e ≤ 1150 → e - 897 ≤ 253
    top_k e h = omega arith

    from : (s : Bool) → narrow_of (of_bits binary64 (cond s 9223372036854775808 0 + b)) ≡ units binary32 s (closest (M b) 536870912) (E b - 897)
    from s =
        narrow_mid s b (p (E b) lo) (below b hi)
        ∙ round_normal s (M b) (E b - 1) (m_lo b) (m_hi b) (k (E b) lo)
        ∙ ap (λ (K : ℕ). units binary32 s (closest (M b) 536870912) K) (same (E b))

    field : (K : ℕ) → K ≤ 253 → suc K < 255
    field K h = omega arith

    field' : (K : ℕ) → K < 253 → suc (suc K) < 255
    field' K h = omega arith

    go : (s : Bool) (q K : ℕ) → 8388608 ≤ q → (q ≡ 16777216) ⊎ (q < 16777216) → K ≤ 253
        → of_bits binary32 (cond s 2147483648 0 + (K * 8388608 + q)) ≡ units binary32 s q K
    go s q K l (inr u) h = encode binary32 s K q l u (field K h)
    go s q K l (inl z) h =
        subst (λ (q : ℕ). of_bits binary32 (cond s 2147483648 0 + (K * 8388608 + q)) ≡ units binary32 s q K) (sym z) (carried (eq-or-lt_of_le h))
      where
        carried : (K ≡ 253) ⊎ (K < 253) → of_bits binary32 (cond s 2147483648 0 + (K * 8388608 + 16777216)) ≡ units binary32 s 16777216 K
        carried (inl e) =
            subst (λ (K : ℕ). of_bits binary32 (cond s 2147483648 0 + (K * 8388608 + 16777216)) ≡ units binary32 s 16777216 K) (sym e)
            (inf_bits s ∙ sym (over_top s))
        carried (inr v) = encode_carry binary32 s K (field' K v)

-- ---- m / p rounded with no branch, for an even p: less than half of p, and the quotient's last bit, carry into the quotient where m is rounded up
pub closest_even : (m p : ℕ) → 0 < p → p % 2 ≡ 0 → (m + (p / 2 - 1) + m / p % 2) / p ≡ closest m p
closest_even m p P even =
    ap (λ (x : ℕ). x / p) (parts (m / p * p) (m % p) (p / 2 - 1) (m / p % 2) (div-add-mod' m p))
    ∙ mul-add-div_right P (m / p) (m % p + (p / 2 - 1) + m / p % 2)
    ∙ go (compare (m % p * 2) p) (leb→le (m % p * 2) p) (nleb→lt (m % p * 2) p) (eqb→eq (m % p * 2) p) eq→eqb (mod-lt m P)
  where
    parts : (a r h b : ℕ) → a + r ≡ m → m + h + b ≡ a + (r + h + b)
    parts a r h b e = omega arith

    once : (k : ℕ) → p ≤ k → k < p + p → k / p ≡ 1
    once k l u = div-eq_of_lt-le p (omega arith) (omega arith)

    kept : (w k : ℕ) → k < p → w + k / p ≡ w
    kept w k h = let e = div-eq_of_lt h in omega arith

    up : (w k : ℕ) → p ≤ k → k < p + p → w + k / p ≡ suc w
    up w k l u = let e = once k l u in omega arith

    low_bit : (w : ℕ) → w % 2 ≤ 1
    low_bit w = omega arith

    tie : (w r : ℕ) → r * 2 ≡ p → w + (r + (p / 2 - 1) + w % 2) / p ≡ w + w % 2
    tie w r e = elim (eq-or-lt_of_le (low_bit w)) [
      | inl odd ↦ up w (r + (p / 2 - 1) + w % 2) (omega arith) (omega arith) ∙ omega arith
      | inr even ↦ kept w (r + (p / 2 - 1) + w % 2) (omega arith) ∙ omega arith
    ]

    go : (o : Ordering) → (T (is_le o) → m % p * 2 ≤ p) → (T (not (is_le o)) → p < m % p * 2) → (T (compare_is_eq o) → m % p * 2 ≡ p)
        → (m % p * 2 ≡ p → T (compare_is_eq o)) → m % p < p
        → m / p + (m % p + (p / 2 - 1) + m / p % 2) / p ≡ nearest (m / p) o
    go Ordering.lt h k e n l = let a = h tt in let b : m % p * 2 ≡ p → ⊥ = n in kept (m / p) (m % p + (p / 2 - 1) + m / p % 2) (omega arith)
    go Ordering.eq h k e n l = tie (m / p) (m % p) (e tt)
    go Ordering.gt h k e n l = let a = k tt in up (m / p) (m % p + (p / 2 - 1) + m / p % 2) (omega arith) (omega arith)

pub closest_29 : (m : ℕ) → (m + 268435455 + m / 536870912 % 2) / 536870912 ≡ closest m 536870912
closest_29 m = closest_even m 536870912 (lit< tt) refl
