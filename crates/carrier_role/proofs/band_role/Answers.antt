-- `carrier_role::band_role` meets its contract: the carrier is the edge, or has a place in the segment that the standard has at its place.
-- Assumes nothing.
use Prim.Native.Nat.{ℕ, ◌<◌}
use mathlib.Core.List.{List}
use mathlib.Core.Path.{◌≡◌, sym, ◌∙◌}
use native.Mathlib.Omega.{arith}
use borrow.Author.Tests.{ne_eqb}
use lib.ListN.{get_or}
use Rattle.std.proofs.lemmas.Bool.{eqb-false}
use Rattle.params.specs.declared.Mode.{Mode}
use Rattle.params.specs.declared.SegmentKind.{SegmentKind}
use Rattle.params.specs.Params.{total_carriers, kind_from, kind_codes}
use Rattle.params.specs.Laws.{sized}
use Rattle.ofdm.specs.Band.{first_carrier, segment_at, band_place, segment_place}
use Rattle.ofdm.specs.Laws.{in_band}
use Rattle.frame.specs.declared.CarrierRole.{CarrierRole}
use Rattle.frame.specs.Roles.{ofdm_segment, place_role, role_at, wide}
use Rattle.frame.specs.OneRole.{segment_in_lem}
use Rattle.carrier_role.proofs.band_role.Goals as goal

module _ (mode : Mode) (kinds : List ℕ) (phase k edge : ℕ) (inside : k < total_carriers mode) (last : edge ≡ first_carrier mode 13) where
  module _ (below : k ≡ edge → ⊥) where
    not_last : k ≡ first_carrier mode 13 → ⊥
    not_last e = below (e ∙ sym last)

    below_edge : k < first_carrier mode 13
    below_edge = omega (arith, not_last, (sized mode).band)

    place_below : band_place mode k < 13
    place_below = in_band mode 13 k below_edge

    -- the role of the place that the code came by
    of_place : (place seg p : ℕ) (kind : SegmentKind) (r : CarrierRole) → place ≡ band_place mode k → seg ≡ segment_at place
        → p ≡ segment_place mode k → kind ≡ kind_from (get_or kinds seg 0) → r ≡ place_role mode (ofdm_segment seg kind) phase p
        → r ≡ role_at mode phase (wide kinds) k
    of_place place seg p kind r b s q t e =
        rw (ne_eqb k (first_carrier mode 13) not_last, segment_in_lem kinds (band_place mode k) place_below) (e ∙ rw (t, s, b, q))

pub returns : goal.returns
returns c =
    let a = c.args in
    let passed = eqb-false a.k.0 c.first_carrier-edge.result.0 (sym c.eq.ensures ∙ c.if-eq.false) in
    of_place a.layout.mode (kind_codes a.layout.kinds) a.phase.number a.k.0 _ c.requires c.first_carrier-edge.ensures passed
    _ _ _ _ _ c.carrier_place-at.ensures.place c.segment_at_position-seg.ensures c.carrier_place-at.ensures.p c.kind.ensures
    c.place_role.ensures
