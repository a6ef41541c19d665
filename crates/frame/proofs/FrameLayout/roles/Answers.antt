-- `frame::FrameLayout::roles` meets its contract: the band is written place by place, and then its edge.
-- Assumes nothing.
use Prim.Native.Nat.{ℕ}
use mathlib.Core.List.{List, [], ◌∷◌, ◌++◌}
use mathlib.Core.Path.{◌≡◌, refl, sym, ap, ◌∙◌}
use lib.ListN.{get_or, set}
use Rattle.lists.specs.Lists.{joined}
use Rattle.lists.specs.Fill.{joined_map}
use Rattle.params.specs.declared.Mode.{Mode}
use Rattle.params.specs.declared.SegmentKind.{SegmentKind}
use Rattle.params.specs.Params.{kind_from, kind_codes}
use Rattle.ofdm.specs.Band.{order, segment_at}
use Rattle.frame.specs.declared.CarrierRole.TheVariants.{EdgeCp}
use Rattle.frame.specs.Roles.{role_byte, ofdm_segment, segment_roles, band_roles, wide_segment, wide}
use Rattle.ofdm.specs.Bands.{again, finish}
use Rattle.frame.proofs.FrameLayout.roles.Invariants.{roles_of}
use Rattle.frame.proofs.FrameLayout.roles.Goals as goal

module _ (mode : Mode) (phase : ℕ) (kinds : List ℕ) where
  -- the roles that the code writes for the segment at a place
  of_segment : (place seg : ℕ) (kind : SegmentKind) (part : List ℕ) → seg ≡ segment_at place → kind ≡ kind_from (get_or kinds seg 0)
      → part ≡ segment_roles mode phase (ofdm_segment seg kind) → part ≡ roles_of mode phase kinds (segment_at place)
  of_segment place seg kind part s k p = p ∙ (rw (k, s))

  whole : (out : List ℕ) → out ≡ joined (roles_of mode phase kinds) order ++ (role_byte EdgeCp ∷ []) → out ≡ band_roles mode phase (wide kinds)
  unfolding band_roles
  whole out o = o ∙ ap (λ (z : List ℕ). z ++ (role_byte EdgeCp ∷ [])) (sym (joined_map (segment_roles mode phase) (wide_segment kinds) order))

pub loop-place-preserved : goal.loop-place-preserved
loop-place-preserved c =
    let seg = c.segment_at_position-seg.ensures in
    let e = of_segment _ _ (kind_codes c.args.self.kinds) c.loop-place.place _ _ _ seg c.kind.ensures c.segment_roles.ensures in
    again _ _ _ _ _ _ _ c.loop-place.invariant _ c.first_carrier-from.ensures c.loop-place-test.true _ _ c.out-1.given.1 e refl

pub returns : goal.returns
returns c =
    let edge = ap (λ (b : ℕ). set c.loop-place.out c.first_carrier-edge.result.0 b) c.from.ensures in
    whole _ _ (kind_codes c.args.self.kinds) _
    (edge ∙ finish _ _ _ _ _ _ _ c.loop-place.invariant _ c.first_carrier-edge.ensures _ c.loop-place-test.false)
