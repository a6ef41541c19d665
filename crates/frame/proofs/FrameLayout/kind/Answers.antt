-- `frame::FrameLayout::kind` meets its contract: a kind comes back from its code.
-- Assumes nothing.
use Rattle.frame.specs.Answers.{kind_again}
use Rattle.frame.proofs.FrameLayout.kind.Goals as goal

pub returns : goal.returns
returns c = kind_again _ _
