-- `text::put_number` meets its contract: the digits and the byte are stored one behind the other.
-- Assumes nothing.
use Rattle.text.specs.Laws.{then}
use Rattle.text.proofs.put_number.Goals as goal

pub returns-clause-put : goal.returns-clause-put
returns-clause-put c = then c.put_decimal-end.ensures.put c.put_byte.ensures
