-- `prbs::sign_map` meets its contract: each return is the case of the definition that the tests on the way decide.
-- Assumes nothing.
use mathlib.Core.Path.{sym, ◌∙◌}
use Rattle.std.proofs.lemmas.Result.{err_from_is_err_and}
use Rattle.prbs.proofs.Answers.{sign_bad_mode, sign_bad_length, sign_written}
use Rattle.prbs.proofs.sign_map.Goals as goal

pub returns-in_err-m : goal.returns-in_err-m
returns-in_err-m c =
    let p = err_from_is_err_and c.from_residual.result c.from_residual.ensures.1 in
    rw (p.1, p.2, c.in_err-m.ensures.1) (sign_bad_mode _ _ c.in_err-m.ensures.0)

pub returns-then-out-total_carriers : goal.returns-then-out-total_carriers
returns-then-out-total_carriers c =
    sign_bad_length _ _ _ c.in_ok-m.ensures (λ e. c.if-out-total_carriers.true (e ∙ sym c.total_carriers.ensures))

pub returns : goal.returns
returns c = sign_written _ _ _ _ c.in_ok-m.ensures (c.if-out-total_carriers.false ∙ c.total_carriers.ensures) c.band_w.ensures
