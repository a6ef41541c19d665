-- Pairs under a gain: where the parts of two pairs are at a level (`Rattle.ieee.specs.Levels`), so are those of their product, sum and
-- difference and their squared sizes, with one test, `roomy`, at each place. Bounds makes those tests once.
-- Assumes nothing.
use Rattle.std.specs.Prelude.{◌≡◌, ℕ, ◌+◌, ◌*◌, ◌^◌, ◌≤◌, false, T, nat_le, Float}
use Rattle.std.proofs.Math.Path.{refl}
use Rattle.std.proofs.Common.{sym, ap, ◌∙◌, le_trans, le_of_eq, le_of_lt, mul-le-mul, mul-le-mul_left, mul-le-mul_right, arith, le→leb, lit≤, pow-add, pow_mono}
use Rattle.std.specs.Float.{Format, binary32}
use Rattle.std.specs.Float.Ieee.{binary64, size, mul}
use Rattle.std.specs.Float.Ieee.Digits.{size-lt}
use Rattle.ieee.specs.Signs.{negative, square_sign, plus_sign}
use Rattle.ieee.specs.Levels as Levels
use Rattle.ieee.specs.Levels.{Level, Scaled, roomy, many, grain}
use Rattle.ieee.specs.Gain.{times_scaled, plus_scaled, minus_scaled, neg_scaled, one_scaled, roomy_one}
use Rattle.root.specs.RootGain.{root_scaled, narrow_root_scaled}
use Rattle.complex.specs.Complex.{Pair, product, conjugate, plus, minus, squared_size, scaled, norm64, norm32}

pub record BothScaled (l : Level) (k : ℕ) (x y : Pair) : Type 0 where
  pub re : Scaled l k x.re y.re
  pub im : Scaled l k x.im y.im

-- the level of a product of two pairs, of a squared size, and of each other sum of two products
abbrev pub two_products : Level → Level → Level
two_products l m = many 2 (Levels.product l m)

module _ (f : Format) (top k : ℕ) (K : k ≤ top) where
  -- one product, as the first or the second part of such a sum
  term : (l m : Level) (x y u v : Float) → T (roomy f top (two_products l m)) → Scaled l k x y → Scaled m k u v
      → Scaled (many 1 (Levels.product l m)) k (mul f x u) (mul f y v)
  term l m x y u v R h g = one_scaled k (Levels.product l m) _ _ (times_scaled f top k l m x y u v K (roomy_one f top 2 (Levels.product l m) (lit≤ tt) R) h g)

  pub product_scaled : (l m : Level) (x y u v : Pair) → T (roomy f top (two_products l m)) → BothScaled l k x y → BothScaled m k u v
      → BothScaled (two_products l m) k (product f x u) (product f y v)
  product_scaled l m x y u v R h g =
      record {
        re = minus_scaled f top k 1 1 (Levels.product l m) _ _ _ _ K R (term l m _ _ _ _ R h.re g.re) (term l m _ _ _ _ R h.im g.im);
        im = plus_scaled f top k 1 1 (Levels.product l m) _ _ _ _ K R (term l m _ _ _ _ R h.re g.im) (term l m _ _ _ _ R h.im g.re);
      }

  pub size_scaled : (l : Level) (x y : Pair) → T (roomy f top (two_products l l)) → BothScaled l k x y
      → Scaled (two_products l l) k (squared_size f x) (squared_size f y)
  size_scaled l x y R h = plus_scaled f top k 1 1 (Levels.product l l) _ _ _ _ K R (term l l _ _ _ _ R h.re h.re) (term l l _ _ _ _ R h.im h.im)

  -- a real factor
  pub factor_scaled : (l m : Level) (x y : Pair) (r s : Float) → T (roomy f top (Levels.product l m)) → BothScaled l k x y → Scaled m k r s
      → BothScaled (Levels.product l m) k (scaled f x r) (scaled f y s)
  factor_scaled l m x y r s R h g = record { re = times_scaled f top k l m _ _ r s K R h.re g; im = times_scaled f top k l m _ _ r s K R h.im g }

  pub sum_scaled : (m n : ℕ) (l : Level) (x y u v : Pair) → T (roomy f top (many (m + n) l)) → BothScaled (many m l) k x y → BothScaled (many n l) k u v
      → BothScaled (many (m + n) l) k (plus f x u) (plus f y v)
  sum_scaled m n l x y u v R h g =
      record {
        re = plus_scaled f top k m n l _ _ _ _ K R h.re g.re;
        im = plus_scaled f top k m n l _ _ _ _ K R h.im g.im;
      }

  pub difference_scaled : (m n : ℕ) (l : Level) (x y u v : Pair) → T (roomy f top (many (m + n) l)) → BothScaled (many m l) k x y → BothScaled (many n l) k u v
      → BothScaled (many (m + n) l) k (minus f x u) (minus f y v)
  difference_scaled m n l x y u v R h g =
      record {
        re = minus_scaled f top k m n l _ _ _ _ K R h.re g.re;
        im = minus_scaled f top k m n l _ _ _ _ K R h.im g.im;
      }

pub conjugate_scaled : (k : ℕ) (l : Level) (x y : Pair) → BothScaled l k x y → BothScaled l k (conjugate x) (conjugate y)
conjugate_scaled k l x y h = record { re = h.re; im = neg_scaled k l _ _ h.im }

-- ---- the norms

-- a squared size has no minus sign
size_sign : (f : Format) (x : Pair) → negative (squared_size f x) ≡ false
size_sign f x = plus_sign f _ _ (square_sign f x.re) (square_sign f x.im)

-- The level of a norm that is handed out in the format f: zero, or at least one unit of the parts, so a whole number of a finer unit; and
-- at most 2 ^ (digits of a part + 1) units of theirs.
abbrev pub reach : Level → ℕ
reach l = size l.most + l.digits + 1

abbrev pub norm_level : Format → Level → Level
norm_level f l = grain f l.unit (reach l) l.power

-- the squares' sum is within the square of that
reached : (q j : ℕ) → 2 * (q * q) * 2 ^ (j + j) ≤ 2 ^ (size q + j + 1 + (size q + j + 1))
reached q j =
    let s = size q in
    let Q : q ≤ 2 ^ s = le_of_lt (size-lt q) in
    le_trans (mul-le-mul_right (2 ^ (j + j)) (mul-le-mul_left 2 (le_trans (mul-le-mul Q Q) (le_of_eq (sym (pow-add 2 s s))))))
    (le_trans (le_of_eq (ap (λ (z : ℕ). z * 2 ^ (j + j)) (sym (pow-add 2 1 (s + s))) ∙ sym (pow-add 2 (1 + (s + s)) (j + j)))) (pow_mono (fewer s j)))
  where
    fewer : (s j : ℕ) → 1 + (s + s) + (j + j) ≤ s + j + 1 + (s + j + 1)
    fewer s j = omega arith

module _ (top k : ℕ) (l : Level) (x y : Pair) (K : k ≤ top) (R : T (roomy binary64 top (two_products l l))) (h : BothScaled l k x y) where
  I : T (nat_le (2 * (l.most * l.most) * 2 ^ (l.digits + l.digits)) (2 ^ (reach l + reach l)))
  I = le→leb _ _ (reached l.most l.digits)

  pub norm64_scaled : Scaled (norm_level binary64 l) k (norm64 x) (norm64 y)
  unfolding norm64
  norm64_scaled =
      root_scaled top k l.unit (reach l) l.power (two_products l l) _ _ K R refl refl I (size_sign binary64 x) (size_scaled binary64 top k K l x y R h)

  pub norm32_scaled : T (roomy binary32 top (norm_level binary64 l)) → Scaled (norm_level binary32 l) k (norm32 x) (norm32 y)
  unfolding norm32 norm64
  norm32_scaled N =
      narrow_root_scaled top k l.unit (reach l) l.power (two_products l l) _ _ K R refl refl I N (size_sign binary64 x)
      (size_scaled binary64 top k K l x y R h)
