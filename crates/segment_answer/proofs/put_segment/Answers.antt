-- `segment_answer::put_segment` meets its contract: the head and the counts of the segment's kind make its line.
-- Assumes nothing.
use Rattle.std.proofs.Common.{refl}
use Rattle.segment_answer.proofs.Lines.{segment_put}
use Rattle.segment_answer.proofs.put_segment.Goals as goal

pub returns-clause-put : goal.returns-clause-put
returns-clause-put c = segment_put c.args.question c.args.place.0 _ _ _ _ c.requires.1 c.segment_at_position-seg.ensures
    c.band_carrier-carrier.ensures refl c.letter_of-letter.ensures c.put_head-behind_head.ensures.put c.put_counts.ensures.put
