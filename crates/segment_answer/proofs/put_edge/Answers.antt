-- `segment_answer::put_edge` meets its contract: the three pieces are stored one behind the other.
-- Assumes nothing.
use Rattle.segment_answer.specs.Answer.{edge_line}
use Rattle.text.specs.Laws.{then, put_as}
use Rattle.segment_answer.proofs.put_edge.Goals as goal

pub returns-clause-put : goal.returns-clause-put
unfolding edge_line
returns-clause-put c =
    put_as (rw c.total_carriers.ensures) (then c.put_text-behind_edge.ensures (then c.put_number-behind_carrier.ensures.put c.put_text.ensures))
