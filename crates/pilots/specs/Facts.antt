-- What a user may rely on of a pilot's value.
-- Assumes nothing.
use Rattle.std.specs.Prelude.{◌≡◌, refl}
use Rattle.std.specs.Float.{binary32}
use Rattle.std.specs.Float.Ieee.{of_bits, div}
use Rattle.pilots.specs.Pilots.{pilot_amplitude}

-- the pilots' amplitude is 4 divided by 3, rounded to f32
pub four_thirds : div binary32 (of_bits binary32 0x4080_0000) (of_bits binary32 0x4040_0000) ≡ pilot_amplitude
unfolding of_bits div
four_thirds = refl
