-- `segment_answer::put_segments` meets its contract: the lines of the places passed are stored one behind another.
-- Assumes nothing.
use Rattle.std.proofs.Common.{arith}
use Rattle.text.specs.Laws.{then, put_as}
use Rattle.segment_answer.specs.Pieces.{line_of}
use Rattle.segment_answer.proofs.Lines.{joined_next}
use Rattle.segment_answer.proofs.put_segments.Goals as goal

pub loop-place-preserved : goal.loop-place-preserved
loop-place-preserved c = (
  omega (arith, c.put_segment-to.ensures.upper_bound),
  put_as (joined_next (line_of c.args.question) c.loop-place.place) (then c.loop-place.invariant.1 c.put_segment-to.ensures.put),
)
