-- `root::positive_root` meets its contract: a subnormal and a normal number are so many units, by `proofs/Cases.antt`.
-- Assumes nothing.
use mathlib.Core.Path.{sym, ◌∙◌}
use native.Mathlib.Omega.{arith}
use Rattle.root.proofs.Cases.{root_low, root_mid}
use Rattle.root.proofs.positive_root.Goals as goal

pub returns-then-e-eq0 : goal.returns-then-e-eq0
returns-then-e-eq0 c =
    let b = c.args.b in
    (c.root_of_units.ensures.is ∙ sym (root_low b (omega arith) c.if-e-eq0.true), c.root_of_units.ensures.low)

pub returns : goal.returns
returns c =
    let b = c.args.b in
    (c.root_of_units-2.ensures.is ∙ sym (root_mid b c.if-e-eq0.false (omega arith)), c.root_of_units-2.ensures.low)
