-- The float constants that document 01 names, each by its bits.
-- Assumes nothing.
use Rattle.std.specs.Prelude.{true, false, ◌≡◌, refl, pos, Float}
use Rattle.std.specs.Float.{fin, Format, binary32, binary64}
use Rattle.std.specs.Float.Ieee.{of_bits}

-- +0.0, where complex sums start
abbrev pub plus_zero : Format → Float
plus_zero f = of_bits f 0

-- 0.5, which halves the guess's energy
abbrev pub half : Float
half = of_bits binary64 0x3fe0_0000_0000_0000

-- the same as f32, above which a segment is differential
abbrev pub half32 : Float
half32 = of_bits binary32 0x3f00_0000

-- -0.0, where `sum::<f32>()` starts
abbrev pub minus_zero : Float
minus_zero = of_bits binary32 0x8000_0000

-- `f32::MIN`, the finite f32 farthest below zero
abbrev pub lowest : Float
lowest = of_bits binary32 0xff7f_ffff

pub plus_zero_is : (f : Format) → plus_zero f ≡ fin false 0 (pos 0)
unfolding of_bits
plus_zero_is binary32 = refl
plus_zero_is binary64 = refl

pub minus_zero_is : minus_zero ≡ fin true 0 (pos 0)
unfolding of_bits
minus_zero_is = refl

-- 24 digits of 1, the largest that an f32 keeps, at the largest exponent
pub lowest_is : lowest ≡ fin true 16777215 (pos 104)
unfolding of_bits
lowest_is = refl
