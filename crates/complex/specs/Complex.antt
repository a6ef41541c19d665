-- Complex numbers as document 01's "Floats" has them: pairs of floats, each operation rounded once, in num-complex's order. One type of
-- pairs serves both widths, since every f32 is an f64, and the format says where it is rounded.
-- Definitions only.
use Rattle.std.specs.Prelude.{Float}
use Rattle.std.specs.Float.{Format, binary64}
use Rattle.std.specs.Float.Ieee.{neg, add, sub, mul, div}
use Rattle.root.specs.Root.{root_of}
use Rattle.ieee.specs.Narrow.{narrow_of}
use Rattle.complex.specs.declared.Complex.{Complex}

pub record Pair : Type 0 where
  pub re : Float
  pub im : Float

abbrev pub pair : Float → Float → Pair
pair a b = record { re = a; im = b }

-- the pair that a complex number holds, where `value` says which float a part is
abbrev pub of : {A : Type 0} → (A → Float) → Complex A → Pair
of value x = pair (value x.re) (value x.im)

-- that of a C32 or a C64, whose parts are floats
abbrev pub of32 : Complex Float → Pair
of32 x = pair x.re x.im

abbrev pub of64 : Complex Float → Pair
of64 x = pair x.re x.im

-- ---- the operations, rounded to the format f

-- of (a, b) and (c, d): (ac - bd, ad + bc)
abbrev pub product : Format → Pair → Pair → Pair
product f x y = pair (sub f (mul f x.re y.re) (mul f x.im y.im)) (add f (mul f x.re y.im) (mul f x.im y.re))

-- of (a, b): (a, -b)
abbrev pub conjugate : Pair → Pair
conjugate x = pair x.re (neg x.im)

abbrev pub plus : Format → Pair → Pair → Pair
plus f x y = pair (add f x.re y.re) (add f x.im y.im)

abbrev pub minus : Format → Pair → Pair → Pair
minus f x y = pair (sub f x.re y.re) (sub f x.im y.im)

-- of (a, b): aa + bb
abbrev pub squared_size : Format → Pair → Float
squared_size f x = add f (mul f x.re x.re) (mul f x.im x.im)

-- a real factor or divisor acts on each part
abbrev pub scaled : Format → Pair → Float → Pair
scaled f x r = pair (mul f x.re r) (mul f x.im r)

abbrev pub divided : Format → Pair → Float → Pair
divided f x r = pair (div f x.re r) (div f x.im r)

-- ---- the norms

-- of an f64 pair: the rounded sum of rounded squares, then the nearest root
unfoldable pub norm64 : Pair → Float
norm64 x = root_of (squared_size binary64 x)

-- of an f32 pair: squares and sum in f64, the root rounded to the nearest f64, then to f32
unfoldable pub norm32 : Pair → Float
norm32 x = narrow_of (norm64 x)
