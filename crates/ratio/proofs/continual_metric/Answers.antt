-- `ratio::continual_metric` meets its contract: a refusal leaves the list as it was, and after it the ratios are written.
-- Assumes nothing.
use mathlib.Core.Path.{sym}
use borrow.Author.Tests.{ne_eqb}
use Rattle.std.proofs.lemmas.Result.{err_from_is_err_and}
use Rattle.params.specs.Laws.{some_number}
use Rattle.ratio.specs.Ratio.{metric_leaves}
use Rattle.ratio.specs.Codes.{accepted}
use Rattle.ratio.proofs.continual_metric.Goals as goal

pub returns-in_err-refusal : goal.returns-in_err-refusal
unfolding metric_leaves
returns-in_err-refusal c =
    let p = err_from_is_err_and c.from_residual.result c.from_residual.ensures.1 in
    let told = c.in_err-refusal.ensures in
    rw (p.1, p.2) (record { code = told; leaves = rw (← told, ne_eqb _ 0 (some_number c.in_err-refusal.field-0.0)) })

pub write_ratios-requires : goal.write_ratios-requires
write_ratios-requires c = accepted c.args.len _ _ 0 (sym c.in_ok-refusal.ensures)

pub returns : goal.returns
unfolding metric_leaves
returns c =
    let told = c.in_ok-refusal.ensures in
    record { code = told; leaves = rw (← told) c.write_ratios.ensures }
