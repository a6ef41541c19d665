-- `question::read_kinds`: the kinds read are those of the front, whose letters are good.
-- Assumes nothing.
use Rattle.question.proofs.Letters.{Read}
use Rattle.question.proofs.read_kinds.Given as goal

abbrev pub invariant-loop-i : goal.invariant-loop-i
invariant-loop-i l = Read l.letters l.i l.kinds
