-- `replay::Answers::check_list` meets its contract.
-- Assumes nothing.
use Rattle.replay.specs.Laws.{found}
use Rattle.replay.proofs.Answers.check_list.Goals as goal

pub returns : goal.returns
returns g c =
    let e = c.in_ok-owed.ensures in
    rw (e.kept) at (found _ _ e.owed.1 c.compare-self.ensures)
