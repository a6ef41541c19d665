-- `carrier_lists::data_list` meets its contract: each return is the case of the definition that the tests on the way decide, and an accepted layout is listed.
-- Assumes nothing.
use Prim.Native.Nat.{ℕ, ◌*◌, ◌≤◌}
use native.Mathlib.Omega.{arith}
use mathlib.Core.Path.{sym, ap, ◌∙◌}
use Rattle.std.proofs.lemmas.Result.{err_from_is_err_and}
use Rattle.params.specs.Params.{data_carriers_per_segment}
use Rattle.carrier_lists.specs.CarrierLists.{data_list}
use Rattle.frame.specs.Answers.{refused_layout, refused_phase, refused_length, answered}
use Rattle.carrier_lists.proofs.data_list.Goals as goal

pub returns-in_err-layout : goal.returns-in_err-layout
returns-in_err-layout c =
    let p = err_from_is_err_and c.from_residual.result c.from_residual.ensures.1 in
    rw (p.1, p.2) (refused_layout _ _ _ _ _ _ _ c.in_err-layout.ensures)

pub returns-in_err-phase : goal.returns-in_err-phase
returns-in_err-phase c =
    let p = err_from_is_err_and c.from_residual-in_err-phase.result c.from_residual-in_err-phase.ensures.1 in
    rw (p.1, p.2, c.in_err-phase.ensures.1) (refused_phase _ _ _ _ _ c.in_ok-layout.ensures c.in_err-phase.ensures.0)

pub returns-then-out-data_carriers_per_segment : goal.returns-then-out-data_carriers_per_segment
returns-then-out-data_carriers_per_segment c =
    let in_phases : c.args.phase ≤ 3 = omega arith in
    refused_length _ (λ m. 13 * data_carriers_per_segment m) _ _ _ c.in_ok-layout.ensures in_phases
    (λ e. c.if-out-data_carriers_per_segment.true (e ∙ ap (λ (n : ℕ). 13 * n) (sym c.data_carriers_per_segment.ensures)))

pub returns : goal.returns
returns c =
    let args = c.args in
    let layout = c.in_ok-layout in
    let in_phases : args.phase ≤ 3 = omega arith in
    answered _ (λ m. 13 * data_carriers_per_segment m) (λ m. data_list m args.phase args.kinds.now) _ _ layout.ensures in_phases
    _ (c.if-out-data_carriers_per_segment.false ∙ ap (λ (c : ℕ). 13 * c) c.data_carriers_per_segment.ensures)
    (rw (layout.ensures.same, ← c.in_ok-phase.ensures) at c.data_carriers.ensures)
