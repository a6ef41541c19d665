-- What the sign map answers and what it leaves in its lent buffer, for every input.
-- Definitions only.
use Rattle.params.specs.declared.Mode.{Mode}
use Rattle.std.specs.Prelude.{ℕ, cond, List, ◌≡◌, eqb, length, Option, Some, None}
use Rattle.lists.specs.Refusals.{unless}
use Rattle.params.specs.Params.{total_carriers}
use Rattle.prbs.specs.Signs.{band_signs}

-- the sign map: 1; 7 unless the output is k_total bytes
unfoldable pub sign_map_code : Option Mode → ℕ → ℕ
sign_map_code None n = 1
sign_map_code (Some m) n = unless (eqb n (total_carriers m)) 7 0

unfoldable pub sign_map_leaves : Option Mode → List ℕ → List ℕ
sign_map_leaves None out = out
sign_map_leaves (Some m) out = cond (eqb (sign_map_code (Some m) (length out)) 0) (band_signs m) out

pub record SignMap (mode : Option Mode) (out : List ℕ) (r : ℕ) (out' : List ℕ) : Type 0 where
  pub code : r ≡ sign_map_code mode (length out)
  pub leaves : out' ≡ sign_map_leaves mode out
