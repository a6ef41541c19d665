-- The bytes that the loop of `feed` has taken, and what holds where it stops.
-- Assumes nothing.
use Prim.Native.Nat.{ℕ, ◌+◌, ◌≤◌, ◌<◌, max}
use mathlib.Core.List.{List, [], ◌∷◌, ◌++◌}
use mathlib.Core.Path.{◌≡◌, sym, subst}
use native.Mathlib.Numerals.{add-one}
use native.Mathlib.Omega.{arith}
use lib.ListN.{length, get_or, take}
use lib.Seq.{slice, slice_empty, take-suc, drop-append-le, length-take-le}
use Rattle.open_line.specs.declared.Line.{Line}
use Rattle.segment_list.specs.Feed.{Takes}
use Rattle.segment_list.specs.Fed.{takes_none, takes_then}

module _ (input : List ℕ) (from : ℕ) where
  pub takes_start : (line : Line) (out : List ℕ) (at : ℕ) → Takes line (slice from from input) out at line at out
  takes_start line out at = subst (λ (xs : List ℕ). Takes line xs out at line at out) (sym (slice_empty from input)) (takes_none line out at)

  slice_more : (i : ℕ) → from ≤ i → i < length input → slice from (i + 1) input ≡ slice from i input ++ (get_or input i 0 ∷ [])
  slice_more i h l =
      let all : length (take i input) ≡ i = length-take-le i input (omega arith) in
      rw (add-one, take-suc input i 0 l) (drop-append-le from (take i input) (get_or input i 0 ∷ []) (omega arith))

  pub takes_more : {line held held' : Line} {out mid end : List ℕ} {at to r : ℕ} (i : ℕ) → from ≤ i → i < length input
      → Takes line (slice from i input) out at held to mid → Takes held (get_or input i 0 ∷ []) mid to held' r end
      → Takes line (slice from (i + 1) input) out at held' r end
  takes_more {line} {held} {held'} {out} {mid} {end} {at} {to} {r} i h l p q =
      subst (λ (xs : List ℕ). Takes line xs out at held' r end) (sym (slice_more i h l)) (takes_then p q)

-- what holds at each turn
pub record Taking (line : Line) (input : List ℕ) (from : ℕ) (out : List ℕ) (at : ℕ) (held : Line) (i to : ℕ) (out' : List ℕ) : Type 0 where
  pub takes : Takes line (slice from i input) out at held to out'
  pub room : to ≤ max at (length out)
  pub still : from ≡ i → to ≡ at
