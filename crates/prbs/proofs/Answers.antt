-- What the tests on the way to a return make of the sign map's definition.
-- Assumes nothing.
use Rattle.std.proofs.Common.{Option, Some, None}
use Prim.Native.Nat.{ℕ}
use mathlib.Core.List.{List}
use mathlib.Core.Path.{◌≡◌}
use borrow.Author.Tests.{eq-eqb, ne_eqb}
use lib.ListN.{length}
use Rattle.params.specs.declared.Mode.{Mode}
use Rattle.params.specs.Params.{total_carriers}
use Rattle.prbs.specs.Signs.{band_signs}
use Rattle.prbs.specs.SignMap.{SignMap, sign_map_code, sign_map_leaves}

pub sign_bad_mode : (number : Option Mode) (out : List ℕ) → number ≡ None → SignMap number out 1 out
unfolding sign_map_code sign_map_leaves
sign_bad_mode number out e = record { code = rw e; leaves = rw e }

module _ (number : Option Mode) (m : Mode) (out : List ℕ) where
  pub sign_bad_length : number ≡ Some m → (length out ≡ total_carriers m → ⊥) → SignMap number out 7 out
  unfolding sign_map_code sign_map_leaves
  sign_bad_length e h = record { code = rw (e, ne_eqb _ _ h); leaves = rw (e, ne_eqb _ _ h) }

  pub sign_written : (out' : List ℕ) → number ≡ Some m → length out ≡ total_carriers m → out' ≡ band_signs m → SignMap number out 0 out'
  unfolding sign_map_code sign_map_leaves
  sign_written out' e h w = record { code = rw (e, eq-eqb _ _ h); leaves = rw (e, eq-eqb _ _ h) w }
