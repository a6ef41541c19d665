-- `segment_list::take_byte` meets its contract: a line feed has the line answered, any other byte is gathered.
-- Assumes nothing.
use Rattle.open_line.specs.Gathered.{gathers_new, gathers_pushed, answer_held}
use Rattle.segment_list.specs.Fed.{takes_feed, takes_byte}
use Rattle.text.specs.Laws.{put_as}
use Rattle.segment_list.proofs.take_byte.Goals as goal

pub returns-then-b-eq10-clause-takes : goal.returns-then-b-eq10-clause-takes
returns-then-b-eq10-clause-takes c =
    takes_feed _ c.if-b-eq10.true (λ s g. put_as (answer_held c.args.line s g) c.answer_line-written.ensures.put) (rw c.new.ensures gathers_new)

pub returns-clause-takes : goal.returns-clause-takes
returns-clause-takes c = takes_byte _ c.if-b-eq10.false (λ s g. rw c.push.ensures (gathers_pushed c.args.line s g _))
