-- Amplifying by a power of two, through one rounding after another: a rounding that drops only digits below the unit of its level, and
-- overflows neither here nor amplified, takes the factor along. So products and sums of values at a level are at a level again.
-- Assumes nothing.
use Rattle.std.specs.Prelude.{◌≡◌, refl, Bool, true, false, not, ◌&&◌, ℕ, zero, suc, ◌+◌, ◌-◌, ◌*◌, ◌/◌, ◌^◌, ◌<◌, ◌≤◌, ℤ, pos, negsuc, T, leb, ltb, eqb, Float}
use Rattle.std.proofs.Common.{sym, ap, ◌∙◌, subst, inl, inr, zero-le, add-le-add, le_refl, le_trans, le_of_eq, lt_of_lt_of_le, lt_of_le_of_lt}
use Rattle.std.proofs.Common.{lt_of_not-le, not-le_of_lt, zero-lt-suc, mul-pos, mul_comm, mul_right_comm, one-mul, mul-one, zero-mul, add-mul}
use Rattle.std.proofs.Common.{mul-le-mul, mul-le-mul_right, mul-le-mul_left, le_of_mul-le-mul_right, le-div_iff_mul-le, arith, leb→le, le→leb, ltb→lt}
use Rattle.std.proofs.Common.{lt→ltb, eqb→eq, pow-add, pow_pos, pow_mono, shl_lt}
use Rattle.std.proofs.Math.Pow.{pow-lt}
use Rattle.std.specs.Float.{nan, inf, fin, Format}
use Rattle.std.specs.Float.Ieee.{prec, emax, low, up, down, unlike, size, round, neg, add, sub, mul, le, fits}
use Rattle.std.specs.Float.Ieee.Digits.{back}
use Rattle.std.specs.Float.Ieee.Fits.{up_pos, down_pos, mul-fits, and_i, two as digits-two, two-le_pos}
use Rattle.std.specs.Float.Ieee.Exact.{HasValue, round_exact}
use Rattle.std.specs.Float.Ieee.Order.{round_mono, drop, kept}
use Rattle.std.specs.Float.Ieee.Positive.{positive, positive-finite, positive_of_value, between, values_of_le, first_pos}
use Rattle.std.specs.Float.Ieee.Scale.{grid, overflow, round_val, round_under, grid_scale, normal_of_fraction}
use Rattle.ieee.specs.Numbers.{three, split, le_multiple, shift, powers, fine, grows, size_gt}
use Rattle.ieee.specs.Signs.{unlike_false, round_neg}
use Rattle.ieee.specs.Values.{ratios, same_value, to_finer, to_coarser, neg_value, value_unique}
use Rattle.ieee.specs.Values.{zero_down, few_digits, in_units, digits, mul_value, shape, add_value}
use Rattle.ieee.specs.Times.{Times}
use Rattle.ieee.specs.Levels.{Level, Scaled, roomy, product, many, finer, wholes, constant, grain, within, two, Whole}

-- ---- a change of sign
pub neg_scaled : (k : ℕ) (l : Level) (x y : Float) → Scaled l k x y → Scaled l k (neg x) (neg y)
neg_scaled k l x y h =
    record {
      sign = not h.sign;
      count = h.count;
      few = h.few;
      here = neg_value x h.sign h.count (2 ^ l.unit) h.here;
      there = neg_value y h.sign (h.count * 2 ^ (l.power * k)) (2 ^ l.unit) h.there;
    }

-- ---- whole units of 2 ^ -u, where u is no finer than the format: a unit is 2 ^ (low - u) smallest values
module _ (f : Format) (u : ℕ) (U : u ≤ low f) where
  pub no_overflow : (n : ℕ) → n < 2 ^ (suc (emax f) + u) → n * 2 ^ (low f - u) < overflow f
  no_overflow n h = subst (λ (z : ℕ). n * 2 ^ (low f - u) < 2 ^ z) (level (suc (emax f)) u (low f) U) (shl_lt (suc (emax f) + u) (low f - u) h)
    where
      level : (e u l : ℕ) → u ≤ l → e + u + (l - u) ≡ l + e
      level e u l h = omega arith

  -- a number of units that has few digits is rounded to itself
  pub exact : (s : Bool) (n q j : ℕ) → q < 2 ^ prec f → n < 2 ^ (suc (emax f) + u) → n * 2 ^ (low f - u) ≡ q * 2 ^ j
      → HasValue (round f s n (2 ^ u)) s n (2 ^ u)
  exact s n q j Q B e =
      round_exact f s n (2 ^ u) q j (pow_pos u) Q (subst (λ (z : ℕ). z < overflow f) e (no_overflow n B)) (fine n u (low f) U ∙ ap (λ (z : ℕ). z * 2 ^ u) e)

-- ---- what `roomy` says
pub room : (f : Format) (top : ℕ) (l : Level) → T (roomy f top l)
    → (l.unit ≤ low f) × (l.most < 2 ^ prec f) × (l.most * 2 ^ (l.digits + l.power * top) < 2 ^ (suc (emax f) + l.unit))
room f top l R =
    let t = three (leb l.unit (low f)) (ltb l.most (2 ^ prec f)) (ltb (l.most * 2 ^ (l.digits + l.power * top)) (2 ^ (suc (emax f) + l.unit))) R in
    (leb→le _ _ t.0, ltb→lt _ _ t.1, ltb→lt _ _ t.2)

-- what is at most a roomy level, in the same units, is roomy
lesser : (f : Format) (top m n u d p : ℕ) → m ≤ n → T (roomy f top (record { unit = u; most = n; digits = d; power = p }))
    → T (roomy f top (record { unit = u; most = m; digits = d; power = p }))
lesser f top m n u d p M R =
    let r = room f top (record { unit = u; most = n; digits = d; power = p }) R in
    and_i (leb u (low f) && ltb m (2 ^ prec f)) (ltb (m * 2 ^ (d + p * top)) (2 ^ (suc (emax f) + u)))
    (and_i (leb u (low f)) (ltb m (2 ^ prec f)) (le→leb _ _ r.0) (lt→ltb _ _ (lt_of_le_of_lt M r.1)))
    (lt→ltb _ _ (lt_of_le_of_lt (mul-le-mul_right (2 ^ (d + p * top)) M) r.2))

-- where a sum of n values has room, so has one of fewer, and so has each of the values
pub roomy_fewer : (f : Format) (top m n : ℕ) (l : Level) → m ≤ n → T (roomy f top (many n l)) → T (roomy f top (many m l))
roomy_fewer f top m n l M R = lesser f top (m * l.most) (n * l.most) l.unit l.digits l.power (mul-le-mul_right l.most M) R

pub roomy_one : (f : Format) (top n : ℕ) (l : Level) → 1 ≤ n → T (roomy f top (many n l)) → T (roomy f top l)
roomy_one f top n l N R = lesser f top l.most (n * l.most) l.unit l.digits l.power (le_multiple n l.most N) R

-- no gain takes a number of the level beyond the format
pub in_range : (f : Format) (top k : ℕ) (l : Level) (n : ℕ) → k ≤ top → T (roomy f top l) → n ≤ l.most * 2 ^ l.digits
    → n * 2 ^ (l.power * k) < 2 ^ (suc (emax f) + l.unit)
in_range f top k l n K R N =
    lt_of_le_of_lt (mul-le-mul N (pow_mono (mul-le-mul_left l.power K)))
    (subst (λ (z : ℕ). z < 2 ^ (suc (emax f) + l.unit)) (sym (shift l.most l.digits (l.power * top))) (room f top l R).2)

-- ---- one rounding
module _ (f : Format) (top k : ℕ) (l : Level) (n : ℕ) (K : k ≤ top) (R : T (roomy f top l)) (N : n ≤ l.most * 2 ^ l.digits) where
  abbrev Rounded : Type 0
  Rounded = Scaled l k (round f false n (2 ^ l.unit)) (round f false (n * 2 ^ (l.power * k)) (2 ^ l.unit))

  U : l.unit ≤ low f
  U = (room f top l R).0

  -- few digits: exact, here and there
  small : n < 2 ^ prec f → Rounded
  small h =
      let p = l.power * k in
      let d = low f - l.unit in
      let B : n * 2 ^ p < 2 ^ (suc (emax f) + l.unit) = in_range f top k l n K R N in
      record {
        sign = false;
        count = n;
        few = N;
        here = exact f l.unit U false n n d h (lt_of_le_of_lt (grows n p) B) refl;
        there = exact f l.unit U false (n * 2 ^ p) n (p + d) h B (shift n p d);
      }

  -- many: the digits that are kept are whole units
  large : 2 ^ prec f ≤ n → Rounded
  large h =
      let p = l.power * k in
      let u = l.unit in
      let c = 2 ^ u in
      let d = low f - u in
      let M = l.most * 2 ^ l.digits in
      let C : 0 < c = pow_pos u in
      let N1 : 1 ≤ n = le_trans (pow_pos (prec f)) h in
      let end : (m : ℕ) → m ≤ M → m < 2 ^ (suc (emax f) + u) = λ m g. lt_of_le_of_lt (grows m p) (in_range f top k l m K R g) in
      let z = round f false n c in
      let o = round f false 1 c in
      let t = round f false M c in
      -- the bound is a value of the format, and so is one unit: the result lies between them
      let top_value : HasValue t false M c =
      exact f u U false M l.most (l.digits + d) (room f top l R).1 (end M (le_refl M)) (shift l.most l.digits d) in
      let hi : T (positive t) = positive_of_value t M c top_value (le_trans N1 N) in
      let lo : T (positive o) =
      positive_of_value o 1 c (exact f u U false 1 1 d (one_lt (prec f) (digits-two f)) (end 1 (le_trans N1 N)) refl) (zero-lt-suc 0) in
      let z≤ : T (le z t) = round_mono f n c M c C C (mul-le-mul_right c N) in
      let P : T (positive z) = between o z t lo hi (round_mono f 1 c n c C C (mul-le-mul_right c N1)) z≤ in
      -- whole units
      let a = n * 2 ^ low f in
      let at : 2 ^ (prec f + d) ≤ a / c =
      (le-div_iff_mul-le C).1 (le_trans (mul-le-mul_right c (le_trans (le_of_eq (pow-add 2 (prec f) d)) (mul-le-mul_right (2 ^ d) h)))
      (le_of_eq (sym (fine n u (low f) U)))) in
      let j = drop (prec f) a c in
      let J : d ≤ j = take_off (prec f) d (size (a / c)) (size_gt (a / c) (prec f + d) at) in
      let w = kept (prec f) a c * 2 ^ (j - d) in
      let G : grid f n c ≡ w * 2 ^ d = sym (shift (kept (prec f) a c) (j - d) d ∙ ap (λ (x : ℕ). kept (prec f) a c * 2 ^ x) (back j d J)) in
      let here : HasValue z false w c =
      to_coarser z false w u (low f) U (subst (λ (g : ℕ). HasValue z false g (2 ^ low f)) G (round_val f n c (round_under f n c (positive-finite z P)))) in
      let W : w ≤ M = le_of_mul-le-mul_right (values_of_le z t w c M c P hi here top_value z≤) C in
      -- the same, amplified
      let normal : 2 ^ (prec f - 1) * c ≤ a = mul-le-mul (le_trans (pow_mono (pred_le (prec f))) h) (pow_mono U) in
      let E : grid f (n * 2 ^ p) c ≡ w * 2 ^ p * 2 ^ d =
      grid_scale f n c p C (normal_of_fraction f n c C normal) ∙ ap (λ (g : ℕ). g * 2 ^ p) G ∙ mul_right_comm w (2 ^ d) (2 ^ p) in
      let O : w * 2 ^ p * 2 ^ d < overflow f = no_overflow f u U (w * 2 ^ p) (in_range f top k l w K R W) in
      let y = round f false (n * 2 ^ p) c in
      record {
        sign = false;
        count = w;
        few = W;
        here = here;
        there = to_coarser y false (w * 2 ^ p) u (low f) U
            (subst (λ (g : ℕ). HasValue y false g (2 ^ low f)) E (round_val f (n * 2 ^ p) c (subst (λ (g : ℕ). g < overflow f) (sym E) O)));
      }
    where
      take_off : (p l z : ℕ) → p + l < z → l ≤ z - p
      take_off p l z h = omega arith

      pred_le : (p : ℕ) → p - 1 ≤ p
      pred_le p = omega arith

      one_lt : (p : ℕ) → 2 ≤ p → 1 < 2 ^ p
      one_lt p h = pow-lt (two-le_pos p h)

  plain : Rounded
  plain = elim (split n (2 ^ prec f)) [ inl h ↦ small h | inr h ↦ large h ]

pub rounded : (f : Format) (top k : ℕ) (l : Level) (s : Bool) (n : ℕ) → k ≤ top → T (roomy f top l) → n ≤ l.most * 2 ^ l.digits
    → Scaled l k (round f s n (2 ^ l.unit)) (round f s (n * 2 ^ (l.power * k)) (2 ^ l.unit))
rounded f top k l false n K R N = plain f top k l n K R N
rounded f top k l true n K R N =
    rw (sym (round_neg f false n (2 ^ l.unit)), sym (round_neg f false (n * 2 ^ (l.power * k)) (2 ^ l.unit)))
    (neg_scaled k l _ _ (plain f top k l n K R N))

-- ---- the product
mul_units : (f : Format) (x u : Float) (s t : Bool) (a i b j : ℕ) → HasValue x s a (2 ^ i) → HasValue u t b (2 ^ j)
    → mul f x u ≡ round f (unlike s t) (a * b) (2 ^ (i + j))
mul_units f x u s t a i b j p q =
    mul_value f x u s t a (2 ^ i) b (2 ^ j) (pow_pos i) (pow_pos j) p q ∙ ap (round f (unlike s t) (a * b)) (sym (pow-add 2 i j))

pub times_scaled : (f : Format) (top k : ℕ) (l m : Level) (x y u v : Float) → k ≤ top → T (roomy f top (product l m))
    → Scaled l k x y → Scaled m k u v → Scaled (product l m) k (mul f x u) (mul f y v)
times_scaled f top k l m x y u v K R h g =
    let a = h.count in
    let b = g.count in
    let i = l.power * k in
    let j = m.power * k in
    let e : a * 2 ^ i * (b * 2 ^ j) ≡ a * b * 2 ^ ((l.power + m.power) * k) =
    powers a i b j ∙ ap (λ (z : ℕ). a * b * 2 ^ z) (sym (add-mul l.power m.power k)) in
    let N : a * b ≤ l.most * m.most * 2 ^ (l.digits + m.digits) =
    le_trans (mul-le-mul h.few g.few) (le_of_eq (powers l.most l.digits m.most m.digits)) in
    rw (mul_units f x u _ _ a _ b _ h.here g.here, mul_units f y v _ _ (a * 2 ^ i) _ (b * 2 ^ j) _ h.there g.there, e)
    (rounded f top k (product l m) (unlike h.sign g.sign) (a * b) K R N)

-- ---- the sum
pub plus_scaled : (f : Format) (top k m n : ℕ) (l : Level) (x y u v : Float) → k ≤ top → T (roomy f top (many (m + n) l))
    → Scaled (many m l) k x y → Scaled (many n l) k u v → Scaled (many (m + n) l) k (add f x u) (add f y v)
plus_scaled f top k m n l x y u v K R h g =
    let a = h.count in
    let b = g.count in
    let c = 2 ^ l.unit in
    let z = shape f h.sign g.sign a b in
    let one : (x : Float) (s : Bool) (n : ℕ) → HasValue x s n c → HasValue x s (n * 1) c = λ x s n. subst (λ (z : ℕ). HasValue x s z c) (sym (mul-one n)) in
    let e : add f x u ≡ round f z.sign z.size c =
    add_value f x u h.sign g.sign a b 1 c (zero-lt-suc 0) (pow_pos l.unit) (one x h.sign a h.here) (one u g.sign b g.here)
    ∙ ap (λ (n : ℕ). round f z.sign n c) (mul-one z.size) in
    let e' : add f y v ≡ round f z.sign (z.size * 2 ^ (l.power * k)) c =
    add_value f y v h.sign g.sign a b (2 ^ (l.power * k)) c (pow_pos (l.power * k)) (pow_pos l.unit) h.there g.there in
    let N : z.size ≤ (m + n) * l.most * 2 ^ l.digits =
    le_trans z.few (le_trans (add-le-add h.few g.few)
    (le_of_eq (sym (ap (λ (i : ℕ). i * 2 ^ l.digits) (add-mul m n l.most) ∙ add-mul (m * l.most) (n * l.most) (2 ^ l.digits))))) in
    rw (e, e') (rounded f top k (many (m + n) l) z.sign z.size K R N)

pub minus_scaled : (f : Format) (top k m n : ℕ) (l : Level) (x y u v : Float) → k ≤ top → T (roomy f top (many (m + n) l))
    → Scaled (many m l) k x y → Scaled (many n l) k u v → Scaled (many (m + n) l) k (sub f x u) (sub f y v)
unfolding sub
minus_scaled f top k m n l x y u v K R h g = plus_scaled f top k m n l x y (neg u) (neg v) K R h (neg_scaled k (many n l) u v g)

-- ---- what is at a level already
pub zero_scaled : (k : ℕ) (l : Level) (s : Bool) → Scaled l k (fin s 0 (pos 0)) (fin s 0 (pos 0))
zero_scaled k l s =
    let z : HasValue (fin s 0 (pos 0)) s 0 (2 ^ l.unit) = (refl, zero-mul (2 ^ l.unit)) in
    record { sign = s; count = 0; few = zero-le; here = z; there = rw (zero-mul (2 ^ (l.power * k))) z }

pub constant_scaled : (k u n : ℕ) (s : Bool) (x : Float) → HasValue x s n (2 ^ u) → Scaled (constant u n) k x x
constant_scaled k u n s x h = record { sign = s; count = n; few = le_of_eq (sym (mul-one n)); here = h; there = rw (zero-mul k, mul-one n) h }

pub one_scaled : (k : ℕ) (l : Level) (x y : Float) → Scaled l k x y → Scaled (many 1 l) k x y
one_scaled k l x y h = record { sign = h.sign; count = h.count; few = rw (one-mul l.most) h.few; here = h.here; there = h.there }

pub more_scaled : (k m n : ℕ) (l : Level) (x y : Float) → m ≤ n → Scaled (many m l) k x y → Scaled (many n l) k x y
more_scaled k m n l x y M h =
    let N : m * l.most * 2 ^ l.digits ≤ n * l.most * 2 ^ l.digits = mul-le-mul_right (2 ^ l.digits) (mul-le-mul_right l.most M) in
    record { sign = h.sign; count = h.count; few = le_trans h.few N; here = h.here; there = h.there }

pub finer_scaled : (k v : ℕ) (l : Level) (x y : Float) → Scaled l k x y → Scaled (finer v l) k x y
finer_scaled k v l x y h =
    record {
      sign = h.sign;
      count = h.count * 2 ^ v;
      few = le_trans (mul-le-mul_right (2 ^ v) h.few) (le_of_eq (shift l.most l.digits v));
      here = same_value x h.sign h.count (2 ^ l.unit) (h.count * 2 ^ v) (2 ^ (l.unit + v)) (pow_pos l.unit) (same h.count) h.here;
      there =
          same_value y h.sign (h.count * 2 ^ (l.power * k)) (2 ^ l.unit) (h.count * 2 ^ v * 2 ^ (l.power * k)) (2 ^ (l.unit + v)) (pow_pos l.unit)
          (ap (λ (n : ℕ). n * 2 ^ l.unit) (mul_right_comm h.count (2 ^ v) (2 ^ (l.power * k))) ∙ same (h.count * 2 ^ (l.power * k))) h.there;
    }
  where
    same : (n : ℕ) → n * 2 ^ v * 2 ^ l.unit ≡ n * 2 ^ (l.unit + v)
    same n = mul_right_comm n (2 ^ v) (2 ^ l.unit) ∙ shift n l.unit v

pub within_scaled : (k : ℕ) (l m : Level) (x y : Float) → T (within l m) → Scaled l k x y → Scaled m k x y
within_scaled k l m x y t h =
    let z = three (eqb l.unit m.unit) (eqb l.power m.power) (leb (l.most * 2 ^ l.digits) (m.most * 2 ^ m.digits)) t in
    let u : l.unit ≡ m.unit = eqb→eq _ _ z.0 in
    let p : l.power ≡ m.power = eqb→eq _ _ z.1 in
    record {
      sign = h.sign;
      count = h.count;
      few = le_trans h.few (leb→le _ _ z.2);
      here = rw (sym u) h.here;
      there = rw (sym u, sym p) h.there;
    }

-- ---- 2 ^ k times a value
mul_two : (f : Format) (p : ℕ) (x : Float) (s : Bool) (n c : ℕ) → 0 < c → HasValue x s n c → mul f x (two p) ≡ round f s (n * 2 ^ p) c
mul_two f p x s n c C h =
    mul_value f x (two p) s false n c (2 ^ p) 1 C (zero-lt-suc 0) h (refl, ap (λ (z : ℕ). z * 1) (one-mul (2 ^ p)))
    ∙ (λ i. round f (unlike_false s i) (n * 2 ^ p) (mul-one c i))

-- a value of few digits times the gain is exact
amplified : (f : Format) (top k : ℕ) (l : Level) (x : Float) (s : Bool) (n q j : ℕ) → k ≤ top → T (roomy f top l) → n ≤ l.most * 2 ^ l.digits
    → HasValue x s n (2 ^ l.unit) → q < 2 ^ prec f → n * 2 ^ (low f - l.unit) ≡ q * 2 ^ j
    → HasValue (mul f x (two (l.power * k))) s (n * 2 ^ (l.power * k)) (2 ^ l.unit)
amplified f top k l x s n q j K R N h Q e =
    let p = l.power * k in
    let d = low f - l.unit in
    rw (mul_two f p x s n (2 ^ l.unit) (pow_pos l.unit) h)
    (exact f l.unit (room f top l R).0 s (n * 2 ^ p) q (j + p) Q (in_range f top k l n K R N)
    (mul_right_comm n (2 ^ p) (2 ^ d) ∙ ap (λ (z : ℕ). z * 2 ^ p) e ∙ shift q j p))

pub gained : (f : Format) (top k j : ℕ) (x : Float) → k ≤ top → T (roomy f top (wholes j)) → j < prec f → Whole j x → Scaled (wholes j) k x (mul f x (two k))
gained f top k j x K R J h =
    let n = h.size in
    let N : n ≤ 1 * 2 ^ j = le_trans h.few (le_of_eq (sym (one-mul (2 ^ j)))) in
    record {
      sign = h.sign;
      count = n;
      few = N;
      here = h.is;
      there = subst (λ (p : ℕ). HasValue (mul f x (two p)) h.sign (n * 2 ^ (1 * k)) 1) (one-mul k)
          (amplified f top k (wholes j) x h.sign n n (low f - 0) K R N h.is (lt_of_le_of_lt h.few (pow-lt J)) refl);
    }

-- ---- by values alone, and by the format's own product
pub times_of : (k : ℕ) (l : Level) (x y : Float) → Scaled l k x y → Times (l.power * k) x y
times_of k l x y h = record { sign = h.sign; up = h.count; over = 2 ^ l.unit; some = pow_pos l.unit; here = h.here; there = h.there }

pub scaled_product : (f : Format) (top k : ℕ) (l : Level) (x y : Float) → k ≤ top → T (roomy f top l) → T (fits f x) → T (fits f y)
    → Scaled l k x y → y ≡ mul f x (two (l.power * k))
scaled_product f top k l x y K R p q h =
    let n = h.count in
    let u = l.unit in
    let b = two (l.power * k) in
    let d = digits f x h.sign (n * 2 ^ (low f - u)) p (to_finer x h.sign n u (low f) (room f top l R).0 h.here) in
    value_unique f y (mul f x b) h.sign (n * 2 ^ (l.power * k)) (2 ^ u) q (mul-fits f x b) (pow_pos u) h.there
    (amplified f top k l x h.sign n d.m d.j K R h.few h.here d.small (sym d.is))

-- ---- the grain is so much finer than 2 ^ -u that every digit of a value is a whole number of it
grain_fits : (f : Format) (u : ℕ) (s : Bool) (m : ℕ) (e : ℤ) → T (fits f (fin s m e)) → (0 < m → down e ≤ m * up e * 2 ^ u)
    → down e ≤ 2 ^ (u + (prec f - 1))
grain_fits f u s zero e t h = zero_down f s e (u + (prec f - 1)) t
grain_fits f u s (suc m) (pos a) t h = pow_pos (u + (prec f - 1))
grain_fits f u s (suc m) (negsuc a) t h =
    pow_mono (last (suc a) u (prec f) (digits-two f) (lt_of_not-le (λ (g : prec f + u ≤ suc a). not-le_of_lt (few g) (h (zero-lt-suc m)))))
  where
    few : prec f + u ≤ suc a → suc m * 1 * 2 ^ u < 2 ^ suc a
    few g =
        lt_of_lt_of_le (shl_lt (prec f) u (lt_of_le_of_lt (le_of_eq (mul-one (suc m))) (few_digits f s (suc m) (negsuc a) t))) (pow_mono g)

    last : (a u p : ℕ) → 2 ≤ p → a < p + u → a ≤ u + (p - 1)
    last a u p P h = omega arith

pub regrained : (f : Format) (k u j p : ℕ) (x y : Float) → T (fits f x) → (t : Times (p * k) x y)
    → (0 < t.up → t.over ≤ t.up * 2 ^ u) → t.up * 2 ^ u ≤ 2 ^ j * t.over → Scaled (grain f u j p) k x y
regrained f k u j p nan y F t lo hi = absurd t.here
regrained f k u j p (inf s) y F t lo hi = absurd t.here
regrained f k u j p (fin s m e) y F t lo hi =
    let v = u + (prec f - 1) in
    let a = t.up in
    let c = t.over in
    let at_least : 0 < m → down e ≤ m * up e * 2 ^ u = λ h.
    le_of_mul-le-mul_right
    (le_trans (le_of_eq (mul_comm (down e) c))
    (le_trans (mul-le-mul_right (down e) (lo (first_pos a (down e) (subst (λ (z : ℕ). 0 < z) t.here.1 (mul-pos (mul-pos h (up_pos e)) t.some)))))
    (le_of_eq (mul_right_comm a (2 ^ u) (down e) ∙ ap (λ (z : ℕ). z * 2 ^ u) (sym t.here.1) ∙ mul_right_comm (m * up e) c (2 ^ u)))))
    t.some in
    let i = in_units v m e (grain_fits f u s m e F at_least) in
    let n = m * 2 ^ i.0 in
    let E : a * 2 ^ v ≡ n * c = ratios (m * up e) c a (2 ^ v) n (down e) (down_pos e) t.here.1 i.1 in
    record {
      sign = t.sign;
      count = n;
      few =
          le_of_mul-le-mul_right
          (le_trans (le_of_eq (sym E ∙ sym (shift a u (prec f - 1))))
          (le_trans (mul-le-mul_right (2 ^ (prec f - 1)) hi)
          (le_of_eq (mul_right_comm (2 ^ j) c (2 ^ (prec f - 1))
          ∙ ap (λ (z : ℕ). z * c) (sym (pow-add 2 j (prec f - 1)) ∙ sym (one-mul (2 ^ (j + (prec f - 1)))))))))
          t.some;
      here = (t.here.0, i.1);
      there = same_value y t.sign (a * 2 ^ (p * k)) c (n * 2 ^ (p * k)) (2 ^ v) t.some
          (mul_right_comm n (2 ^ (p * k)) c ∙ ap (λ (z : ℕ). z * 2 ^ (p * k)) (sym E) ∙ mul_right_comm a (2 ^ v) (2 ^ (p * k))) t.there;
    }
