-- `angle::Unsigned::size` meets its contract.
-- Assumes nothing.
use mathlib.Core.Path.{sym}
use native.Mathlib.Omega.{arith}
use Rattle.angle.proofs.Sizes.{digits_low, digits_mid}
use Rattle.angle.proofs.Unsigned.size.Goals as goal

pub returns-then-e-eq0 : goal.returns-then-e-eq0
returns-then-e-eq0 c = (sym (digits_low c.args.self.bits (omega arith)), omega arith)

pub returns : goal.returns
returns c = (sym (digits_mid c.args.self.bits (omega arith)), omega arith)
