-- What a quarter turn, a change of sign and a conjugate leave of products, squared sizes and norms, for all values and in either format. A
-- quarter turn only swaps the two parts of a sum, so nothing changes by a bit; a change of sign leaves what is not equal bit for bit equal
-- but for the sign of a zero (`Alike`), and squares do not see that.
-- Assumes nothing.
use Rattle.std.specs.Prelude.{◌≡◌, Bool, true, false, refl, Float}
use Rattle.std.proofs.Common.{ap, ◌∙◌, subst}
use Rattle.std.specs.Float.{Format, binary64}
use Rattle.std.specs.Float.Ieee.{unlike, neg, add, sub, mul}
use Rattle.ieee.specs.Narrow.{narrow_of}
use Rattle.root.specs.Root.{root_of}
use Rattle.ieee.specs.Signs.{plus_comm, times_neg, times_neg_r, times_neg_neg, neg_neg, flip, times_flip, times_flip_both, square_flip, neg_flip}
use Rattle.ieee.specs.Zeros.{canon, plus_flip, plus_alike, times_alike, square_alike}
use Rattle.complex.specs.Changes.{negated, turned, turn_if}
use Rattle.complex.specs.Complex.{Pair, pair, product, conjugate, squared_size, scaled, norm64, norm32}

-- equal but for the sign of a zero
pub record Alike (x y : Pair) : Type 0 where
  pub re : canon x.re ≡ canon y.re
  pub im : canon x.im ≡ canon y.im

-- ---- a product of one value and the conjugate of another
pub turned_product : (f : Format) (x y : Pair) → product f (turned x) (conjugate (turned y)) ≡ product f x (conjugate y)
unfolding sub
turned_product f x y =
    let a = x.re in
    let b = x.im in
    let c = y.re in
    let d = y.im in
    let r : add f (mul f (neg b) (neg d)) (neg (mul f a (neg c))) ≡ add f (mul f a c) (neg (mul f b (neg d))) =
    simp (times_neg, times_neg_r, neg_neg) (plus_comm f (mul f b d) (mul f a c)) in
    let i : add f (mul f (neg b) (neg c)) (mul f a (neg d)) ≡ add f (mul f a (neg d)) (mul f b c) =
    ap (λ (z : Float). add f z (mul f a (neg d))) (times_neg_neg f b c) ∙ plus_comm f (mul f b c) (mul f a (neg d)) in
    λ j. pair (r j) (i j)

-- one part of the product: both of its terms change their sign, or neither
part : (f : Format) (c : Bool) (u v u' v' : Float) → u' ≡ flip c u → v' ≡ flip c v → canon (add f u' v') ≡ canon (flip c (add f u v))
part f c u v u' v' p q = rw (p, q) (plus_flip f c u v)

pub negated_product : (f : Format) (a b : Bool) (x y : Pair)
    → Alike (product f (negated a x) (conjugate (negated b y))) (negated (unlike a b) (product f x (conjugate y)))
unfolding sub
negated_product f a b x y =
    let c = unlike a b in
    let m : (u v : Float) → mul f (flip a u) (neg (flip b v)) ≡ flip c (mul f u (neg v)) =
    λ u v. ap (λ (z : Float). mul f (flip a u) z) (neg_flip b v) ∙ times_flip f a b u (neg v) in
    record {
      re =
          part f c (mul f x.re y.re) (neg (mul f x.im (neg y.im))) _ _ (times_flip f a b x.re y.re)
          (ap neg (m x.im y.im) ∙ neg_flip c (mul f x.im (neg y.im)));
      im = part f c (mul f x.re (neg y.im)) (mul f x.im y.re) _ _ (m x.re y.im) (times_flip f a b x.im y.re);
    }

-- where both change their sign the product is the same bit for bit
pub both_negated_product : (f : Format) (b : Bool) (x y : Pair) → product f (negated b x) (conjugate (negated b y)) ≡ product f x (conjugate y)
both_negated_product f true x y = simp (times_neg_neg, times_neg, times_neg_r, neg_neg)
both_negated_product f false x y = refl

-- ---- a real factor
pub turned_scaled : (f : Format) (x : Pair) (r : Float) → scaled f (turned x) r ≡ turned (scaled f x r)
turned_scaled f x r = λ j. pair (times_neg f x.im r j) (mul f x.re r)

pub negated_scaled : (f : Format) (b : Bool) (x : Pair) (r : Float) → scaled f (negated b x) r ≡ negated b (scaled f x r)
negated_scaled f true x r = λ j. pair (times_neg f x.re r j) (times_neg f x.im r j)
negated_scaled f false x r = refl

-- ---- the square of a value, and its squared size
squared : (f : Format) (b : Bool) (u v : Float) → canon u ≡ canon (flip b v) → mul f u u ≡ mul f v v
squared f b u v h = square_alike f u (flip b v) h ∙ square_flip f b v

crossed : (f : Format) (b : Bool) (u v u' v' : Float) → canon u ≡ canon (flip b u') → canon v ≡ canon (flip b v') → canon (mul f u v) ≡ canon (mul f u' v')
crossed f b u v u' v' h k = times_alike f u (flip b u') v (flip b v') h k ∙ ap canon (times_flip_both f b u' v')

pub square_re : (f : Format) (b : Bool) (p q : Pair) → Alike p (negated b q) → (product f p p).re ≡ (product f q q).re
square_re f b p q h = λ j. sub f (squared f b p.re q.re h.re j) (squared f b p.im q.im h.im j)

pub square_im : (f : Format) (b : Bool) (p q : Pair) → Alike p (negated b q) → canon (product f p p).im ≡ canon (product f q q).im
square_im f b p q h = plus_alike f _ _ _ _ (crossed f b _ _ _ _ h.re h.im) (crossed f b _ _ _ _ h.im h.re)

pub alike_size : (f : Format) (b : Bool) (p q : Pair) → Alike p (negated b q) → squared_size f p ≡ squared_size f q
alike_size f b p q h = λ j. add f (squared f b p.re q.re h.re j) (squared f b p.im q.im h.im j)

pub turned_size : (f : Format) (x : Pair) → squared_size f (turned x) ≡ squared_size f x
turned_size f x =
    ap (λ (z : Float). add f z (mul f x.re x.re)) (times_neg_neg f x.im x.im) ∙ plus_comm f (mul f x.im x.im) (mul f x.re x.re)

pub negated_size : (f : Format) (b : Bool) (x : Pair) → squared_size f (negated b x) ≡ squared_size f x
negated_size f b x = alike_size f b (negated b x) x (record { re = refl; im = refl })

pub conjugate_size : (f : Format) (x : Pair) → squared_size f (conjugate x) ≡ squared_size f x
conjugate_size f x = ap (λ (z : Float). add f (mul f x.re x.re) z) (times_neg_neg f x.im x.im)

-- ---- a value changed as demand 3 changes it: negated or not, turned by a quarter or not. Where two values are changed alike, the product of
-- one with the conjugate of the other is the same bit for bit, and so is the squared size of each; where they are turned alike and their signs
-- differ, the product is the same but for its sign and the sign of a zero.
pub changed_product : (f : Format) (s t : Bool) (x y : Pair)
    → product f (negated s (turn_if t x)) (conjugate (negated s (turn_if t y))) ≡ product f x (conjugate y)
changed_product f s true x y = both_negated_product f s (turned x) (turned y) ∙ turned_product f x y
changed_product f s false x y = both_negated_product f s x y

pub changed_product_alike : (f : Format) (a b t : Bool) (x y : Pair)
    → Alike (product f (negated a (turn_if t x)) (conjugate (negated b (turn_if t y)))) (negated (unlike a b) (product f x (conjugate y)))
changed_product_alike f a b true x y =
    subst (λ (p : Pair). Alike (product f (negated a (turned x)) (conjugate (negated b (turned y)))) (negated (unlike a b) p)) (turned_product f x y)
    (negated_product f a b (turned x) (turned y))
changed_product_alike f a b false x y = negated_product f a b x y

pub changed_size : (f : Format) (s t : Bool) (x : Pair) → squared_size f (negated s (turn_if t x)) ≡ squared_size f x
changed_size f s true x = negated_size f s (turned x) ∙ turned_size f x
changed_size f s false x = negated_size f s x

pub changed_scaled : (f : Format) (s t : Bool) (x : Pair) (r : Float) → scaled f (negated s (turn_if t x)) r ≡ negated s (turn_if t (scaled f x r))
changed_scaled f s true x r = negated_scaled f s (turned x) r ∙ ap (negated s) (turned_scaled f x r)
changed_scaled f s false x r = negated_scaled f s x r

-- ---- so the norms are the same, bit for bit, wherever the squared sizes are
pub norm32_is : (x : Pair) → norm32 x ≡ narrow_of (root_of (squared_size binary64 x))
unfolding norm32 norm64
norm32_is x = refl

pub norm64_same : (x y : Pair) → squared_size binary64 x ≡ squared_size binary64 y → norm64 x ≡ norm64 y
unfolding norm64
norm64_same x y h = ap root_of h

pub norm32_same : (x y : Pair) → squared_size binary64 x ≡ squared_size binary64 y → norm32 x ≡ norm32 y
unfolding norm32
norm32_same x y h = ap narrow_of (norm64_same x y h)

pub changed_norm32 : (s t : Bool) (x : Pair) → norm32 (negated s (turn_if t x)) ≡ norm32 x
changed_norm32 s t x = norm32_same (negated s (turn_if t x)) x (changed_size binary64 s t x)

pub changed_norm64 : (s t : Bool) (x : Pair) → norm64 (negated s (turn_if t x)) ≡ norm64 x
changed_norm64 s t x = norm64_same (negated s (turn_if t x)) x (changed_size binary64 s t x)
