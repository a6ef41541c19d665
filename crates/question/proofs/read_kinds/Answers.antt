-- `question::read_kinds` meets its contract: each letter is good and has its kind, or is none.
-- Assumes nothing.
use Rattle.std.proofs.Common.{◌≡◌, ℕ, arith, subst}
use Rattle.question.proofs.Letters.{Read, one_more, all_read}
use Rattle.question.proofs.read_kinds.Goals as goal

pub loop-i-preserved : goal.loop-i-preserved
loop-i-preserved c = one_more _ c.requires c.loop-i.i _ _ c.loop-i.invariant (omega arith) c.in_ok-kinds.ensures

pub returns : goal.returns
returns c =
    let end : c.loop-i.i ≡ 13 = omega arith in
    all_read _ c.requires _ (subst (λ (i : ℕ). Read c.args.letters.now i c.loop-i.kinds) end c.loop-i.invariant)
