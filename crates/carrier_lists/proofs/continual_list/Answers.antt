-- `carrier_lists::continual_list` meets its contract: each return is the case of the definition that the tests on the way decide.
-- Assumes nothing.
use Rattle.std.proofs.lemmas.Result.{err_from_is_err_and}
use Rattle.carrier_lists.proofs.Buffered.{continual_refused, continual_answered}
use Rattle.carrier_lists.proofs.continual_list.Goals as goal

pub returns-in_err-layout : goal.returns-in_err-layout
returns-in_err-layout c =
    let p = err_from_is_err_and c.from_residual.result c.from_residual.ensures.1 in
    rw (p.1, p.2) (continual_refused _ _ _ _ c.in_err-layout.ensures)

pub returns : goal.returns
returns c = continual_answered _ _ c.in_ok-layout.ensures _ _ c.continual_carriers.ensures
