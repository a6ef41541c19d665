-- `segment_kinds::detect_kinds` meets its contract: each return is the case of the definition that the tests on the way decide.
-- Assumes nothing.
use mathlib.Core.Path.{refl}
use Rattle.std.proofs.lemmas.Result.{err_from_is_err_and}
use Rattle.segment_kinds.proofs.Answers.{bad_mode, refused, answered}
use Rattle.segment_kinds.proofs.detect_kinds.Goals as goal

pub returns-in_err-m : goal.returns-in_err-m
returns-in_err-m c =
    let p = err_from_is_err_and c.from_residual.result c.from_residual.ensures.1 in
    rw (p.1, p.2, c.in_err-m.ensures.1) (bad_mode _ _ _ c.in_err-m.ensures.0)

pub returns-in_err-continual_metric : goal.returns-in_err-continual_metric
returns-in_err-continual_metric c =
    let p = err_from_is_err_and c.from_residual-in_err-continual_metric.result c.from_residual-in_err-continual_metric.ensures.1 in
    rw (p.1, p.2) (refused _ _ c.in_ok-m.ensures _ _ _ _ _ c.total_carriers.ensures c.in_err-continual_metric.ensures _ refl)

pub returns : goal.returns
returns c = answered _ _ c.in_ok-m.ensures _ _ _ _ _ c.total_carriers.ensures c.in_ok-continual_metric.ensures _ refl c.detected.ensures
