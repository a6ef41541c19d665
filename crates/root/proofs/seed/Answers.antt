-- `root::seed` meets its contract: the table is the whole roots, which are computed and compared with it.
-- Assumes nothing.
use native.Mathlib.Omega.{arith}
use Rattle.root.specs.Root.{whole_root}
use Rattle.root.proofs.RootTable.{seeded}
use Rattle.root.proofs.seed.Goals as goal

pub returns : goal.returns
unfolding whole_root
returns c = seeded c.args.t (omega arith) (omega arith)
