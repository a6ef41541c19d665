-- `replay::Answers::check` meets its contract: a list of one entry.
-- Assumes nothing.
use Rattle.std.proofs.Common.{ℕ}
use Rattle.replay.specs.Laws.{found}
use Rattle.replay.proofs.Answers.check.Goals as goal

pub returns : goal.returns
returns g c =
    let bits = λ (i : ℕ). g.T.Entry.bits_of c.args.got in
    let e = c.in_ok-owed.ensures in
    rw (e.kept) at (found {got = bits} _ _ e.owed.1 c.compare_one-self.ensures)
