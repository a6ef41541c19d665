-- `frame::role_map` meets its contract: each return is the case of the definition that the tests on the way decide, and an accepted layout is written.
-- Assumes nothing.
use mathlib.Core.Path.{◌≡◌, sym, ◌∙◌}
use Rattle.std.proofs.lemmas.Result.{err_from_is_err_and}
use Prim.Native.Nat.{◌≤◌}
use native.Mathlib.Omega.{arith}
use Rattle.params.specs.Params.{total_carriers}
use Rattle.frame.specs.Roles.{band_roles, wide}
use Rattle.frame.specs.Answers.{refused_layout, refused_phase, refused_length, answered}
use Rattle.frame.proofs.role_map.Goals as goal

pub returns-in_err-layout : goal.returns-in_err-layout
returns-in_err-layout c =
    let p = err_from_is_err_and c.from_residual.result c.from_residual.ensures.1 in
    rw (p.1, p.2) (refused_layout _ _ _ _ _ _ _ c.in_err-layout.ensures)

pub returns-in_err-phase : goal.returns-in_err-phase
returns-in_err-phase c =
    let p = err_from_is_err_and c.from_residual-in_err-phase.result c.from_residual-in_err-phase.ensures.1 in
    rw (p.1, p.2, c.in_err-phase.ensures.1) (refused_phase _ _ _ _ _ c.in_ok-layout.ensures c.in_err-phase.ensures.0)

pub returns-then-out-total_carriers : goal.returns-then-out-total_carriers
returns-then-out-total_carriers c =
    let in_phases : c.args.phase ≤ 3 = omega (arith, c.in_ok-phase.ensures, c.in_ok-phase.phase.in_cycle) in
    refused_length _ _ _ _ _ c.in_ok-layout.ensures in_phases (λ e. c.if-out-total_carriers.true (e ∙ sym c.total_carriers.ensures))

pub returns : goal.returns
returns c =
    let layout = c.in_ok-layout in
    let args = c.args in
    let in_phases : args.phase ≤ 3 = omega (arith, c.in_ok-phase.ensures, c.in_ok-phase.phase.in_cycle) in
    let same : c.roles.new.out ≡ band_roles layout.layout.mode args.phase (wide args.kinds.now) =
    rw (layout.ensures.same, ← c.in_ok-phase.ensures) at c.roles.ensures in
    answered _ total_carriers (λ m. band_roles m args.phase (wide args.kinds.now)) _ _ layout.ensures in_phases
    _ (c.if-out-total_carriers.false ∙ c.total_carriers.ensures) same
