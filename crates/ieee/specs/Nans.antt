-- What the test `is_nan` tells: the NaN, or a number.
-- Assumes nothing.
use Rattle.std.specs.Prelude.{◌≡◌, refl, true, false, not, T, Float}
use Rattle.std.proofs.lemmas.Bool.{false≢true}
use Rattle.std.specs.Float.{nan, inf, fin}
use Rattle.std.specs.Float.Ieee.{is_nan}

pub is_the_nan : (x : Float) → is_nan x ≡ true → x ≡ nan
unfolding is_nan
is_the_nan nan e = refl
is_the_nan (inf s) e = absurd (false≢true e)
is_the_nan (fin s m k) e = absurd (false≢true e)

pub is_number : (x : Float) → is_nan x ≡ false → T (not (is_nan x))
is_number x e = rw e tt
