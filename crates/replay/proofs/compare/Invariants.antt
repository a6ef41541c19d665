-- `replay::compare` meets its contract: entry by entry.
-- Assumes nothing.
use Rattle.std.proofs.Common.{get_or, map}
use Rattle.replay.specs.Answers.{Compared}
use Rattle.replay.proofs.compare.Given as goal

abbrev pub invariant-loop-i : goal.invariant-loop-i
invariant-loop-i g l = Compared (λ k. get_or (map g.T.Entry.bits_of l.got) k 0) l.stored l.owed l.i l.initial.t l.t
