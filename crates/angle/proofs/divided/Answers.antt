-- `angle::divided` meets its contract: long division, two digits of 2 ^ 11.
-- Assumes nothing.
use native.Mathlib.Omega.{arith}
use Rattle.angle.proofs.Numbers.{long, small}
use Rattle.angle.proofs.divided.Goals as goal

pub returns : goal.returns
returns c =
    let s = small c.args.m c.args.n (omega arith) in
    (long c.args.m c.args.n (omega arith), omega (arith, s.first, s.second))
