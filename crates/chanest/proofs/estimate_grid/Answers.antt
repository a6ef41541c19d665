-- `chanest::estimate_grid` meets its contract: each return is the case of the definition that the tests on the way decide.
-- Assumes nothing.
use Rattle.std.proofs.lemmas.Result.{err_from_is_err_and}
use Rattle.chanest.proofs.Answers.{bad_layout, bad_numbers, answered}
use Rattle.chanest.proofs.estimate_grid.Goals as goal

pub returns-in_err-layout : goal.returns-in_err-layout
returns-in_err-layout c =
    let p = err_from_is_err_and c.from_residual.result c.from_residual.ensures.1 in
    rw (p.1, p.2) (bad_layout _ _ _ _ _ _ c.in_err-layout.ensures)

pub returns-in_err-refusal : goal.returns-in_err-refusal
returns-in_err-refusal c =
    let p = err_from_is_err_and c.from_residual-in_err-refusal.result c.from_residual-in_err-refusal.ensures.1 in
    rw (p.1, p.2) (bad_numbers _ _ _ _ c.in_ok-layout.ensures _ c.in_err-refusal.ensures)

pub returns : goal.returns
returns c = answered _ _ _ _ c.in_ok-layout.ensures c.in_ok-refusal.ensures c.write_grid.ensures
