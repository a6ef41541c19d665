-- `segment_kinds::segment_score` meets its contract: the rows are those of the tables, and the place is the segment's.
-- Assumes nothing.
use Rattle.segment_kinds.proofs.Scores.{scorable, scored}
use Rattle.segment_kinds.proofs.segment_score.Goals as goal

pub mean_ratio-requires : goal.mean_ratio-requires
mean_ratio-requires c =
    scorable _ _ c.args.ratios.now c.requires.segment c.tmcc_positions.ensures c.ac1_positions.ensures
    c.ac2_positions-ac2.ensures c.tmcc_positions-differential.ensures

pub returns : goal.returns
returns c =
    scored _ _ c.args.ratios.now c.requires.segment c.tmcc_positions.ensures c.ac1_positions.ensures
    c.ac2_positions-ac2.ensures c.tmcc_positions-differential.ensures _ _ c.segment_position.ensures.0 c.mean_ratio.ensures
