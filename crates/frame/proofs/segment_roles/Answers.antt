-- `frame::segment_roles` meets its contract: the pilots first, then each row of the tables marked over them.
-- Assumes nothing.
use Prim.Native.Nat.{ℕ}
use mathlib.Core.List.{List}
use mathlib.Core.Path.{◌≡◌}
use lib.ListN.{length}
use Rattle.params.specs.declared.Mode.{Mode}
use Rattle.params.specs.declared.phase.Phase.{Phase}
use Rattle.params.specs.Params.{carriers_per_segment}
use Rattle.ofdm.specs.declared.Segment.{Segment}
use Rattle.frame.proofs.Segment.{InSegment, tmcc_markable, ac1_markable, ac2_markable, all_marked}
use Rattle.frame.proofs.segment_roles.Goals as goal

inside : {mode : Mode} {out : List ℕ} (seg : Segment) (phase : Phase) → length out ≡ carriers_per_segment mode → InSegment mode seg.number phase.number out
inside seg phase room = record { row_below = seg.in_band; phase_below = phase.in_cycle; room = room }

pub mark-requires : goal.mark-requires
mark-requires c =
    tmcc_markable _ _ c.args.kind _ _ (inside c.args.seg c.args.phase c.requires) _ c.write_pilots.ensures _ c.tmcc_positions.ensures

pub mark-requires-2 : goal.mark-requires-2
mark-requires-2 c =
    ac1_markable _ _ c.args.kind _ _ (inside c.args.seg c.args.phase c.requires) _ c.write_pilots.ensures _ c.tmcc_positions.ensures _ c.mark.ensures
    _ c.ac1_positions.ensures

pub mark-requires-3 : goal.mark-requires-3
mark-requires-3 c =
    ac2_markable _ _ c.args.kind _ _ (inside c.args.seg c.args.phase c.requires) _ c.write_pilots.ensures _ c.tmcc_positions.ensures _ c.mark.ensures
    _ c.ac1_positions.ensures _ c.mark-2.ensures _ c.ac2_positions.ensures

pub returns : goal.returns
returns c =
    all_marked _ _ c.args.kind _ _ (inside c.args.seg c.args.phase c.requires) _ c.write_pilots.ensures _ c.tmcc_positions.ensures _ c.mark.ensures
    _ c.ac1_positions.ensures _ c.mark-2.ensures _ c.ac2_positions.ensures _ c.mark-3.ensures
