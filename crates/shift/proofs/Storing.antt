-- A list stored entry by entry from an index on: what is left to store, behind what is stored, is the whole.
-- Assumes nothing.
use Prim.Native.Nat.{ℕ, ◌+◌, ◌≤◌, ◌<◌}
use mathlib.Core.List.{List}
use mathlib.Core.Path.{◌≡◌, refl}
use native.Mathlib.Nat.{add-suc}
use native.Mathlib.Numerals.{add-one}
use native.Mathlib.Omega.{arith}
use lib.ListN.{length, get_or, drop, set, drop_of_length-le}
use lib.Seq.{sets, drop-cons}
use Rattle.shift.specs.Inner.{Put}

module _ (xs old : List ℕ) (at : ℕ) where
  abbrev pub Left : ℕ → List ℕ → Type 0
  Left i out = sets out (at + i) (drop i xs) ≡ sets old at xs

  pub store_again : (i v d : ℕ) (out : List ℕ) → i < length xs → v ≡ get_or xs i d → Left i out → Left (i + 1) (set out (at + i) v)
  store_again i v d out h e l = rw (e, add-one i, add-suc at i) (rw (drop-cons xs i d h) at l)

  pub store_done : (ys : List ℕ) (i n : ℕ) (out : List ℕ) → xs ≡ ys → n ≡ length xs → n ≤ i → Left i out → Put ys old at (at + n) out
  store_done ys i n out q e h l = rw (← q, e) (record { next = refl; stored = rw (drop_of_length-le xs {i = i} (omega arith)) at l })
