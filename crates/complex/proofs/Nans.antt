-- The squared size of a pair with a NaN is a NaN.
-- Assumes nothing.
use Rattle.std.proofs.Common.{◌≡◌, true, T, sym, refl, subst}
use lib.Ieee.{Float, nan, inf, fin, Format, binary64, of_bits, is_nan, add, mul}
use Rattle.complex.specs.Complex.{pair, squared_size}

the_nan : (x : Float) → is_nan x ≡ true → x ≡ nan
unfolding is_nan
the_nan nan e = refl
the_nan (inf s) e = absurd (subst T (sym e) tt)
the_nan (fin s m k) e = absurd (subst T (sym e) tt)

add_nan : (f : Format) (x : Float) → nan ≡ add f x nan
unfolding add
add_nan f nan = refl
add_nan f (inf s) = refl
add_nan f (fin s m e) = refl

-- the bits are those of std's NAN
pub of_re : (x y : Float) → is_nan x ≡ true → of_bits binary64 0x7ff8000000000000 ≡ squared_size binary64 (pair x y)
unfolding add mul of_bits
of_re x y e = subst (λ (z : Float). nan ≡ squared_size binary64 (pair z y)) (sym (the_nan x e)) refl

pub of_im : (x y : Float) → is_nan y ≡ true → of_bits binary64 0x7ff8000000000000 ≡ squared_size binary64 (pair x y)
unfolding mul of_bits
of_im x y e = subst (λ (z : Float). nan ≡ squared_size binary64 (pair x z)) (sym (the_nan y e)) (add_nan binary64 _)
