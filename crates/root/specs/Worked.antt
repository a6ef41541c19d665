-- Roots worked out by the definition, so that a reader sees it at a few numbers: of a square, of 2, of the least and the greatest f64, below
-- zero.
-- Assumes nothing.
use Rattle.std.specs.Prelude.{◌≡◌, refl, true, false, pos, negsuc}
use Rattle.std.specs.Float.{nan, fin, binary64}
use Rattle.std.specs.Float.Ieee.{of_bits}
use Rattle.root.specs.Root.{root_of}

four : root_of (fin false 1 (pos 2)) ≡ fin false 1 (pos 1)
unfolding root_of
four = refl

two : root_of (of_bits binary64 0x4000_0000_0000_0000) ≡ of_bits binary64 0x3ff6_a09e_667f_3bcd
unfolding root_of of_bits
two = refl

least : root_of (fin false 1 (negsuc 1073)) ≡ fin false 1 (negsuc 536)
unfolding root_of
least = refl

greatest : root_of (of_bits binary64 0x7fef_ffff_ffff_ffff) ≡ of_bits binary64 0x5fef_ffff_ffff_ffff
unfolding root_of of_bits
greatest = refl

below : root_of (fin true 1 (pos 0)) ≡ nan
unfolding root_of
below = refl
