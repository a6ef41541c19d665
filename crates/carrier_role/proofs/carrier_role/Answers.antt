-- `carrier_role::carrier_role` meets its contract: each return is the case of the definition that the tests on the way decide.
-- Assumes nothing.
use Prim.Native.Nat.{◌≤◌}
use native.Mathlib.Omega.{arith}
use Rattle.std.proofs.lemmas.Result.{err_from_is_err_and}
use Rattle.carrier_role.proofs.Answers.{refused_layout, refused_phase, refused_carrier, answered}
use Rattle.carrier_role.proofs.carrier_role.Goals as goal

pub returns-in_err-layout : goal.returns-in_err-layout
returns-in_err-layout c =
    let p = err_from_is_err_and c.from_residual.result c.from_residual.ensures.1 in
    rw (p.1, p.2) (refused_layout _ _ _ _ _ c.in_err-layout.ensures)

pub returns-in_err-phase : goal.returns-in_err-phase
returns-in_err-phase c =
    let p = err_from_is_err_and c.from_residual-in_err-phase.result c.from_residual-in_err-phase.ensures.1 in
    rw (p.1, p.2, c.in_err-phase.ensures.1) (refused_phase _ _ _ c.in_ok-layout.ensures c.in_err-phase.ensures.0)

pub returns-then-total_carriers-k : goal.returns-then-total_carriers-k
returns-then-total_carriers-k c =
    let in_phases : c.args.phase ≤ 3 = omega arith in
    refused_carrier _ _ _ c.in_ok-layout.ensures in_phases (rw c.total_carriers.ensures at c.if-total_carriers-k.true)

pub returns : goal.returns
returns c =
    let in_phases : c.args.phase ≤ 3 = omega arith in
    answered _ _ _ c.in_ok-layout.ensures in_phases _ (rw c.total_carriers.ensures at c.if-total_carriers-k.false)
    (rw (← c.in_ok-phase.ensures) at c.band_role.ensures)
