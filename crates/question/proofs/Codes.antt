-- A question's mode is one where its digit is 1 to 3.
-- Assumes nothing.
use Rattle.std.specs.Prelude.{ℕ, ◌-◌, true, false, ◌&&◌, ◌≡◌, leb, Some, None}
use Rattle.std.proofs.Common.{arith}
use Rattle.params.specs.declared.Mode.{Mode}
use Rattle.params.specs.Params.{mode_from}
use Rattle.std.proofs.lemmas.Bool.Decides.{nat_tests}

pub mode_named : (b : ℕ) (m : Mode) → mode_from (b - 48) ≡ Some m → (leb 49 b && leb b 51) ≡ true
mode_named b m e = grind (arith, nat_tests)

pub mode_unnamed : (b : ℕ) → mode_from (b - 48) ≡ None → (leb 49 b && leb b 51) ≡ false
mode_unnamed b e = grind (arith, nat_tests)

pub ruleset modes = (mode_named, mode_unnamed)
