-- What `segment_score` uses of the tables' rows: they can be scored, and the mean of what they tell is the segment's score.
-- Assumes nothing.
use Prim.Native.Nat.{ℕ, ◌<◌}
use mathlib.Core.List.{List, ◌∷◌, ◌++◌}
use mathlib.Core.Path.{◌≡◌, ap, ◌∙◌}
use lib.Ieee.{Float}
use Rattle.params.specs.declared.Mode.{Mode}
use Rattle.params.specs.declared.SegmentKind.TheVariants.{Coherent, Differential}
use Rattle.tables.specs.Places.{tmcc_of, ac1_of, ac2_of}
use Rattle.tables.specs.Rule.{tmcc_below, ac2_below, tmcc_short, ac2_short}
use Rattle.ofdm.specs.Band.{place_of}
use Rattle.segment_kinds.specs.SegmentKinds.{kind_places, kind_score}
use Rattle.segment_kinds.specs.Inner.{kept, ratio_at, mean_of, Scorable}

module _ (mode : Mode) (seg : ℕ) (ratios : List Float) (in_table : seg < 13)
    {tmcc ac1 ac2 differential : List ℕ} (t : tmcc ≡ tmcc_of mode Coherent seg) (a : ac1 ≡ ac1_of mode Coherent seg)
    (a2 : ac2 ≡ ac2_of mode Differential seg) (d : differential ≡ tmcc_of mode Differential seg) where
  pub scorable : Scorable mode ac2 differential
  scorable =
      rw (a2, d)
      (record {
        ac2_short = ac2_short mode Differential seg in_table;
        ac2_inside = ac2_below mode Differential seg in_table;
        tmcc_short = tmcc_short mode Differential seg in_table;
        tmcc_inside = tmcc_below mode Differential seg in_table;
      })

  pub scored : (place : ℕ) (r : Float) → place ≡ place_of seg
      → r ≡ mean_of (ratio_at mode place ratios) (kept tmcc ac1 (0 ∷ (ac2 ++ differential))) → r ≡ kind_score mode ratios seg
  unfolding mean_of kind_score kind_places
  scored place r placed e =
      let tells = ap (λ (x : List ℕ). kept x ac1) t ∙ ap (kept (tmcc_of mode Coherent seg)) a in
      let mean = λ (k : List ℕ → List ℕ). mean_of (ratio_at mode place ratios) (k (0 ∷ (ac2 ++ differential))) in
      e ∙ ap mean tells ∙ rw (a2, d, placed)
