-- Narrowed values worked out by the definition, so that a reader sees it at a few numbers: 1 + 2 ^ -24 is a tie and goes to the even 1; half
-- the least f32 goes to zero, three halves of it to two; the greatest f64 to ∞.
-- Assumes nothing.
use Rattle.std.specs.Prelude.{◌≡◌, refl, false, pos, negsuc}
use Rattle.std.specs.Float.{inf, fin, binary64}
use Rattle.std.specs.Float.Ieee.{of_bits}
use Rattle.ieee.specs.Narrow.{narrow_of}

tie : narrow_of (fin false 16777217 (negsuc 23)) ≡ fin false 1 (pos 0)
unfolding narrow_of
tie = refl

half_least : narrow_of (fin false 1 (negsuc 149)) ≡ fin false 0 (pos 0)
unfolding narrow_of
half_least = refl

three_halves : narrow_of (fin false 3 (negsuc 149)) ≡ fin false 1 (negsuc 147)
unfolding narrow_of
three_halves = refl

beyond : narrow_of (of_bits binary64 0x7fef_ffff_ffff_ffff) ≡ inf false
unfolding narrow_of of_bits
beyond = refl
