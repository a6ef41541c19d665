-- What `mean_ratio` keeps: the sum and the count so far, with what the places ahead will add, are the whole; behind the last place they give the mean.
-- Assumes nothing.
use Prim.Native.Nat.{ℕ, ◌+◌, ◌≤◌, ◌<◌}
use mathlib.Core.Bool.{Bool, true, false}
use mathlib.Core.List.{List, [], ◌∷◌, map}
use mathlib.Core.Path.{◌≡◌, ap}
use native.Mathlib.Numerals.{add-one}
use native.Mathlib.Omega.{arith}
use lib.IntN.{pos}
use lib.ListN.{length, get_or, drop, drop_of_length-le}
use lib.Seq.{drop-cons}
use lib.Ieee.{Float, binary32, add, div, of_int}
use Rattle.ieee.specs.Constants.{minus_zero}
use Rattle.ieee.specs.Sums.{total}
use Rattle.lists.specs.Lists.{select}
use Rattle.segment_kinds.specs.Inner.{mean_of}

module _ (keep : ℕ → Bool) (places : List ℕ) (f : ℕ → Float) where
  abbrev ahead : ℕ → List ℕ
  ahead i = select keep (drop i places)

  pub record Ahead (sum : Float) (count i : ℕ) : Type 0 where
    pub few : count ≤ i
    pub summed : total binary32 sum (map f (ahead i)) ≡ total binary32 minus_zero (map f (select keep places))
    pub counted : count + length (ahead i) ≡ length (select keep places)

  module _ {sum : Float} {count i : ℕ} (a : Ahead sum count i) where
    -- p is the next place
    module _ {p : ℕ} (turn : (i < length places) × (p ≡ get_or places i p)) where
      pub skip : keep p ≡ false → Ahead sum count (i + 1)
      skip e =
          let same : ahead (i + 1) ≡ ahead i = rw (drop-cons places i p turn.0, ← turn.1, e, add-one) in
          record { few = omega (arith, a.few); summed = rw same a.summed; counted = rw same a.counted }

      pub further : keep p ≡ true → Ahead (add binary32 sum (f p)) (count + 1) (i + 1)
      unfolding total
      further e =
          let one : ahead i ≡ p ∷ ahead (i + 1) = rw (drop-cons places i p turn.0, ← turn.1, e, add-one) in
          record { few = omega (arith, a.few); summed = rw one at a.summed; counted = omega (arith, a.counted, ap length one) }

    pub mean : length places ≤ i → div binary32 sum (of_int binary32 (pos count)) ≡ mean_of f (select keep places)
    unfolding total mean_of
    mean h =
        let none : ahead i ≡ [] = ap (select keep) (drop_of_length-le places h) in
        let s : sum ≡ total binary32 minus_zero (map f (select keep places)) = rw none at a.summed in
        let n : count ≡ length (select keep places) = omega (arith, a.counted, ap length none) in
        rw (s, n)
