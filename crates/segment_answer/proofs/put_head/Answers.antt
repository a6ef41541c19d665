-- `segment_answer::put_head` meets its contract: the four pieces are stored one behind the other.
-- Assumes nothing.
use Rattle.text.specs.Laws.{then}
use Rattle.segment_answer.proofs.put_head.Goals as goal

pub returns-clause-put : goal.returns-clause-put
returns-clause-put c =
    then c.put_number-behind_place.ensures.put
    (then c.put_number-behind_number.ensures.put (then c.put_byte-behind_letter.ensures (then c.put_byte-behind_comma.ensures c.put_number.ensures.put)))
