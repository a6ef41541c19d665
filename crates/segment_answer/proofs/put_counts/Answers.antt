-- `segment_answer::put_counts` meets its contract: the six counts of the mode and kind are stored, three and three.
-- Assumes nothing.
use Rattle.std.proofs.Common.{ap, sym}
use Rattle.text.specs.Laws.{then, put_as}
use Rattle.segment_answer.specs.Pieces.{three, counts_line}
use Rattle.segment_answer.proofs.put_counts.Goals as goal

pub returns-clause-put : goal.returns-clause-put
returns-clause-put c =
    let r = c.kind_counts-k.result in
    put_as (ap counts_line (sym c.kind_counts-k.ensures))
    (then {s = three r.«data» r.sp r.cp 44} {t = three r.tmcc r.ac1 r.ac2 10} c.put_three-behind_cp.ensures.put c.put_three.ensures.put)
