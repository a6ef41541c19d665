-- The fractional carrier offset (acquire.rs, `cfo_frac`; document 02, Ask 5): the angle of a guess's two parts, negated as a whole number and then divided
-- by 65536 in f64. It is in turns, which are carrier spacings: samples that are e carrier spacings too high turn by e turns in n samples.
-- Definitions only.
use Rattle.std.specs.Prelude.{ℤ, pos, neg_ℤ, Float}
use Rattle.std.specs.Float.{binary64}
use Rattle.std.specs.Float.Ieee.{of_int, div}
use Rattle.complex.specs.Complex.{Pair}
use Rattle.angle.specs.Angle.{angle_of}

-- of an angle
abbrev pub offset_of : ℤ → Float
offset_of z = div binary64 (of_int binary64 (neg_ℤ z)) (of_int binary64 (pos 65536))

-- of both parts of the summed correlation
unfoldable pub cfo_frac : Pair → Float
cfo_frac p = offset_of (angle_of p)
