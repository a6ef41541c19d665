-- The value of a pilot by its sign (ARIB STD-B31, Tables 3-17 and 3-19).
-- Definitions only.
use Rattle.std.specs.Prelude.{ℕ, cond, eqb, Float}
use Rattle.std.specs.Float.{binary32}
use Rattle.std.specs.Float.Ieee.{of_bits, neg}
use Rattle.complex.specs.Complex.{Pair, pair}

-- 4/3 as f32
abbrev pub pilot_amplitude : Float
pilot_amplitude = of_bits binary32 0x3faa_aaab

-- the pilot of a sign: 0 is +4/3, 1 is -4/3
abbrev pub pilot_value : ℕ → Pair
pilot_value w = pair (cond (eqb w 0) pilot_amplitude (neg pilot_amplitude)) (of_bits binary32 0)
