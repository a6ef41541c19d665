-- What `search` keeps: the best so far is the winner among the shifts passed.
-- Assumes nothing.
use Prim.Native.Nat.{ℕ, ◌+◌, ◌*◌, ◌-◌, ◌%◌, ◌≤◌}
use mathlib.Core.Bool.{Bool, true, false, cond}
use mathlib.Core.List.{List, map, map-append}
use mathlib.Core.Path.{◌≡◌, sym, ap, ◌∙◌}
use native.Mathlib.Numerals.{add-one}
use native.Mathlib.Omega.{arith}
use lib.IntN.{ℤ, pos}
use lib.ListN.{length}
use lib.Ieee.{Float, minus, lt}
use Rattle.ieee.specs.Constants.{lowest}
use Rattle.lists.specs.Lists.{range}
use Rattle.shift.specs.declared.Best.{Best}
use Rattle.shift.specs.Shift.{sum_at, Winner, winner, searched, shifts, best_shift}
use Rattle.shift.specs.Inner.{sum_up, Bounded, BestFound}
use Rattle.shift.specs.Searches.{searched_more}
use Rattle.ieee.specs.Differences.{minus_self}
use Rattle.shift.proofs.Counted.{sum_moved}

module _ (bins : List ℕ) (ratios : List Float) (bound : ℕ) where
  -- the winner of the j lowest shifts
  abbrev won : ℕ → Winner
  won j = searched (sum_at (length ratios) bins ratios) (winner (pos 0) lowest) (map (λ k. minus k bound) (range j))

  pub record Passed (j : ℕ) (best : Best) : Type 0 where
    pub inside : best.at ≤ 2 * bound
    pub wins : winner (minus best.at bound) best.sum ≡ won j

  pub search_begin : Passed 0 (record { at = bound; sum = lowest })
  unfolding searched
  search_begin = record { inside = omega arith; wins = ap (λ (z : ℤ). winner z lowest) (minus_self bound) }

  -- s is the sum of shift number j
  module _ (j : ℕ) (best : Best) (w : Passed j best) (b : Bounded bins (length ratios) bound) (h : j ≤ 2 * bound) (s : Float)
      (e : s ≡ sum_up bins ratios ((j + (length ratios - bound)) % length ratios)) where
    next : (greater : Bool) → lt best.sum s ≡ greater
        → won (j + 1) ≡ cond greater (winner (minus j bound) s) (winner (minus best.at bound) best.sum)
    next greater g =
        let here : sum_at (length ratios) bins ratios (minus j bound) ≡ s = sum_moved bins ratios j bound b.some b.within ∙ sym e in
        rw (add-one, map-append, searched_more, ← w.wins, here, g)

    pub search_take : lt best.sum s ≡ true → Passed (j + 1) (record { at = j; sum = s })
    search_take g = record { inside = h; wins = sym (next true g) }

    pub search_keep : lt best.sum s ≡ false → Passed (j + 1) best
    search_keep g = record { inside = w.inside; wins = sym (next false g) }

  pub search_done : (best : Best) → Passed (2 * bound + 1) best → BestFound bins ratios bound best
  unfolding shifts best_shift
  search_done best w = record { inside = w.inside; wins = w.wins }
