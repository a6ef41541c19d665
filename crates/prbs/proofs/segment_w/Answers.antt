-- `prbs::segment_w` meets its contract: the register is loaded with the segment's row and run over its c carriers.
-- Assumes nothing.
use Rattle.prbs.specs.Signs.{segment_signs}
use Rattle.prbs.proofs.segment_w.Goals as goal

pub returns : goal.returns
unfolding segment_signs
returns c =
    rw (← c.prbs_segment_init-row.ensures, ← c.init.ensures, ← c.requires) c.run_register.ensures
