-- `frame::write_pilots` meets its contract: the output is filled from the front.
-- Assumes nothing.
use Rattle.lists.specs.Fill.{fill_again}
use mathlib.Core.Path.{ap, ◌∙◌}
use Rattle.frame.specs.Roles.{role_byte}
use native.Mathlib.Omega.{arith}
use Rattle.frame.proofs.write_pilots.Goals as goal

pub loop-p-preserved : goal.loop-p-preserved
loop-p-preserved c = fill_again _ _ _ _ _ c.loop-p.invariant (c.from.ensures ∙ ap role_byte c.pilot_role.ensures) (omega arith)
