-- `tmcc::tmcc_soft` meets its contract: each return is the case of the definition that the tests on the way decide.
-- Assumes nothing.
use Rattle.std.proofs.lemmas.Result.{err_from_is_err_and}
use Rattle.tmcc.proofs.Answers.{refused_layout, refused_length, refused_filter, answered}
use Rattle.tmcc.proofs.tmcc_soft.Goals as goal

pub returns-in_err-layout : goal.returns-in_err-layout
returns-in_err-layout c =
    let p = err_from_is_err_and c.from_residual.result c.from_residual.ensures.1 in
    rw (p.1, p.2) (refused_layout _ _ _ _ _ c.in_err-layout.ensures)

pub returns-then-spectra-total_carriers : goal.returns-then-spectra-total_carriers
returns-then-spectra-total_carriers c =
    refused_length _ _ _ c.in_ok-layout.ensures _ c.total_carriers.ensures c.if-spectra-total_carriers.true

pub returns-in_err-filter : goal.returns-in_err-filter
returns-in_err-filter c =
    let p = err_from_is_err_and c.from_residual-in_err-filter.result c.from_residual-in_err-filter.ensures.1 in
    let refused = c.in_err-filter.ensures in
    rw (p.1, p.2, refused.1)
    (refused_filter _ _ _ c.in_ok-layout.ensures _ c.total_carriers.ensures c.if-spectra-total_carriers.false refused.0)

pub returns : goal.returns
returns c =
    answered _ _ _ c.in_ok-layout.ensures _ c.total_carriers.ensures c.if-spectra-total_carriers.false _ _ c.in_ok-filter.ensures c.soft_value.ensures
