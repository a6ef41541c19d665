-- What `soft_value` keeps: the terms of the segments so far are added up.
-- Assumes nothing.
use Prim.Native.Nat.{ℕ, ◌+◌, ◌*◌, ◌<◌}
use mathlib.Core.Bool.{Bool, true, false, cond}
use mathlib.Core.List.{List, [], map, map-append, map-map}
use mathlib.Core.Path.{◌≡◌, refl, ◌∙◌}
use native.Mathlib.Numerals.{add-one}
use lib.Ieee.{Float, binary32}
use lib.ListN.{get_or}
use Rattle.ieee.specs.Constants.{minus_zero}
use Rattle.ieee.specs.Sums.{total, total_append}
use Rattle.lists.specs.Lists.{range, joined}
use Rattle.lists.specs.Fill.{joined_range}
use Rattle.params.specs.declared.Mode.{Mode}
use Rattle.params.specs.declared.SegmentKind.{SegmentKind}
use Rattle.params.specs.Params.{carriers_per_segment, total_carriers, kind_from}
use Rattle.tables.specs.Places.{tmcc_of}
use Rattle.tables.specs.Rule.{tmcc_below}
use Rattle.ofdm.specs.Band.{segment_at}
use Rattle.tmcc.specs.Tmcc.{passes, place_tmcc, tmcc_carriers, soft_term, soft_value}
use Rattle.tmcc.specs.Inner.{Addable, added_to}

-- the places of a row can be added
pub addable : {mode : Mode} {place n seg : ℕ} {row : List ℕ} (kind : SegmentKind) → place < 13 → n ≡ 4 * total_carriers mode → seg < 13
    → row ≡ tmcc_of mode kind seg → Addable mode place row n
addable {mode} {seg = seg} kind h two in_table e = rw e (record { in_band = h; in_segment = tmcc_below mode kind seg in_table; two = two })

-- ---- the loop
module _ (mode : Mode) (kinds : List ℕ) (filter : ℕ) (xs : List Float) where
  abbrev terms : List ℕ → List Float
  terms carriers = map (soft_term (total_carriers mode) xs) carriers

  abbrev carriers_at : ℕ → List ℕ
  carriers_at place = place_tmcc mode kinds filter place

  abbrev pub Summed : Float → ℕ → Type 0
  Summed sum place = sum ≡ total binary32 minus_zero (terms (joined carriers_at (range place)))

  pub begin : Summed minus_zero 0
  unfolding total
  begin = refl

  pub done : (sum : Float) → Summed sum 13 → sum ≡ soft_value mode kinds filter xs
  unfolding soft_value tmcc_carriers
  done sum s = s

  module _ (sum : Float) (place : ℕ) (s : Summed sum place) where
    more : (sum' : Float) → sum' ≡ total binary32 sum (terms (carriers_at place)) → Summed sum' (place + 1)
    more sum' e = e ∙ rw (add-one place, joined_range carriers_at place, map-append, total_append, s)

    -- the segment at the place, and whether its kind passes
    module _ (seg : ℕ) (kind : SegmentKind) (b : Bool) (at : seg ≡ segment_at place) (k : kind ≡ kind_from (get_or kinds seg 0))
        (told : b ≡ passes filter kind) where
      carriers_are : carriers_at place ≡ cond b (map (λ p. place * carriers_per_segment mode + p) (tmcc_of mode kind seg)) []
      carriers_are = rw (told, k, at)

      pub skip : b ≡ false → Summed sum (place + 1)
      unfolding total
      skip e = more sum (rw (carriers_are, e))

      pub further : (row : List ℕ) (sum' : Float) → b ≡ true → row ≡ tmcc_of mode kind seg → sum' ≡ added_to sum mode place xs row
          → Summed sum' (place + 1)
      unfolding added_to
      further row sum' e l a = more sum' (a ∙ rw (carriers_are, e, map-map, l))
