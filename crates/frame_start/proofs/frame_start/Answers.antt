-- `frame_start::frame_start` meets its contract: the bits from f on are carried along, and at no start before f stands a word.
-- Assumes nothing.
use Rattle.std.proofs.Common.{arith}
use Rattle.frame_start.proofs.Register.{begin, no_word, end, turn, passed}
use Rattle.frame_start.proofs.frame_start.Goals as goal

pub returns-in_err-value-items : goal.returns-in_err-value-items
returns-in_err-value-items c = rw c.from_residual.ensures (end c.args.soft.now _ 0 (begin c.args.soft.now _ c.first_bits-bits.ensures)
    (omega (arith, c.in_err-value-items.ensures.lookup)))

pub loop-start-preserved : goal.loop-start-preserved
loop-start-preserved c =
    let t = turn c.args.soft.now _ c.in_ok-value-items.ensures.lookup.0.2 _ _ _ _ c.loop-start-test.true c.shifted-bits.ensures in
    no_word _ _ _ _ _ c.loop-start.invariant t.inside t.read (λ q. omega arith) (λ q. omega arith)

pub returns : goal.returns
returns c = end _ _ _ c.loop-start.invariant (passed c.args.soft.now _ c.in_ok-value-items.ensures.lookup.0.2 _ c.loop-start-test.false)
