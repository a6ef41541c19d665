-- `segment_answer::put_three` meets its contract: the three numbers are stored one behind the other.
-- Assumes nothing.
use Rattle.text.specs.Laws.{then}
use Rattle.segment_answer.proofs.put_three.Goals as goal

pub returns-clause-put : goal.returns-clause-put
returns-clause-put c = then c.put_number-behind_a.ensures.put (then c.put_number-behind_b.ensures.put c.put_number.ensures.put)
