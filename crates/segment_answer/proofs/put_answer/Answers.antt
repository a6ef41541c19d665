-- `segment_answer::put_answer` meets its contract: the line is refused, or its question's segments are listed.
-- Assumes nothing.
use Rattle.params.specs.Laws.{some_number}
use Rattle.text.specs.Laws.{then, put_as}
use Rattle.segment_answer.specs.Laws.{refused_answer}
use Rattle.segment_answer.proofs.Lines.{question_lines}
use Rattle.segment_answer.proofs.put_answer.Goals as goal

pub returns-in-Ok-clause-put : goal.returns-in-Ok-clause-put
returns-in-Ok-clause-put c =
    put_as (question_lines c.args.line.now c.in-Ok.question c.in-Ok.ensures.code c.in-Ok.ensures.asked)
    (then c.put_segments-behind_segments.ensures.put c.put_edge.ensures.put)

pub returns-in-Err-clause-put : goal.returns-in-Err-clause-put
returns-in-Err-clause-put c = put_as (refused_answer c.args.line.now _ c.in-Err.ensures.code (some_number c.in-Err.refusal))
    (rw c.from.ensures at c.put_refused.ensures.put)
