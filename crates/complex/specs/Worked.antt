-- Norms worked out by the definitions: of (3, -4), and of a pair whose squares an f32 could not hold.
-- Assumes nothing.
use Rattle.std.specs.Prelude.{◌≡◌, true, false, pos, refl}
use lib.Ieee.{fin}
use Rattle.root.specs.Root.{root_of}
use Rattle.ieee.specs.Narrow.{narrow_of}
use Rattle.complex.specs.Complex.{pair, norm32, norm64}

five64 : norm64 (pair (fin false 3 (pos 0)) (fin true 1 (pos 2))) ≡ fin false 5 (pos 0)
unfolding norm64 root_of lib.Ieee.add lib.Ieee.mul
five64 = refl

five32 : norm32 (pair (fin false 3 (pos 0)) (fin true 1 (pos 2))) ≡ fin false 5 (pos 0)
unfolding norm32 norm64 root_of narrow_of lib.Ieee.add lib.Ieee.mul
five32 = refl

-- (3, -4) times 2 ^ 120
far : norm32 (pair (fin false 3 (pos 120)) (fin true 1 (pos 122))) ≡ fin false 5 (pos 120)
unfolding norm32 norm64 root_of narrow_of lib.Ieee.add lib.Ieee.mul
far = refl
