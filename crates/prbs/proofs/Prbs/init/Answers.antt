-- `prbs::Prbs::init` meets its contract: the digits are written from the highest on.
-- Assumes nothing.
use Rattle.std.proofs.Common.{◌≡◌, refl, ◌∙◌, arith}
use Rattle.std.proofs.Math.Nat.{div-one}
use Rattle.lists.specs.Fill.{fill_again}
use Rattle.prbs.proofs.Prbs.init.Goals as goal

pub loop-i-preserved : goal.loop-i-preserved
loop-i-preserved c = fill_again _ _ _ _ _ c.loop-i.invariant refl (omega arith)

pub returns : goal.returns
returns c =
    let end : c.loop-i.i ≡ 11 = omega arith in
    rw end at c.loop-i.invariant ∙ rw (div-one c.args.row)
