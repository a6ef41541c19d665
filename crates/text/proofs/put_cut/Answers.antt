-- `text::put_cut` meets its contract: text that is too long is stored as far as the buffer goes.
-- Assumes nothing.
use Rattle.std.proofs.Common.{arith, sym, length, take_all}
use Rattle.text.specs.Laws.{cut_as, front_cut, whole_cut}
use Rattle.text.proofs.put_cut.Goals as goal

pub returns-then-room-text : goal.returns-then-room-text
returns-then-room-text c =
    let t = c.args.text.now in
    cut_as (sym (take_all (length t) t (omega arith))) (front_cut t (length t) c.put_text.ensures (omega arith) (omega arith) (omega arith))

pub returns : goal.returns
returns c =
    let p = c.put_text-2.ensures in
    whole_cut p (omega (arith, p.next))
