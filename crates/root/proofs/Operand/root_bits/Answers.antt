-- `root::Operand::root_bits` meets its contract: the digits and the exponent of the nearest root make its bits, by `finished_by`.
-- Assumes nothing.
use native.Mathlib.Omega.{arith}
use Rattle.root.proofs.Finished.{finished_by}
use Rattle.root.proofs.Operand.root_bits.Goals as goal

pub returns : goal.returns
returns c = finished_by _ _ _ _ _ _ c.lifted-l.ensures c.whole_root-p.ensures (omega arith) (omega arith)
