-- The share: no spectra count as one.
-- Assumes nothing.
use Prim.Native.Nat.{ℕ, max}
use mathlib.Core.Bool.{Bool, true, false, cond}
use mathlib.Core.Path.{◌≡◌, refl}
use native.Mathlib.Omega.{arith}
use borrow.Author.Tests.{eqb-true}
use lib.Dec.{eqb}
use lib.IntN.{pos}
use lib.Ieee.{binary32, div, of_int}
use Rattle.std.proofs.lemmas.Bool.{eqb-false}
use Rattle.winner.specs.Winner.{share_of}

pub share_by : (v n : ℕ) {all : ℕ} → all ≡ max n 1 → div binary32 (of_int binary32 (pos v)) (of_int binary32 (pos all)) ≡ share_of v n
unfolding share_of
share_by v n {all} e = let q : all ≡ cond (eqb n 0) 1 n = by (eqb n 0) refl in rw q
  where
    by : (t : Bool) → eqb n 0 ≡ t → all ≡ cond t 1 n
    by true z = omega (arith, e, eqb-true)
    by false z = let d = eqb-false n 0 z in omega (arith, e)
