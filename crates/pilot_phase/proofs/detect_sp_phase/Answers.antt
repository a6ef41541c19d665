-- `pilot_phase::detect_sp_phase` meets its contract: each return is the case of the definition that the tests on the way decide.
-- Assumes nothing.
use mathlib.Core.Path.{sym, ◌∙◌}
use Rattle.std.proofs.lemmas.Result.{err_from_is_err_and}
use Rattle.pilot_phase.proofs.Answers.{refused_layout, refused_length, accepted}
use Rattle.pilot_phase.proofs.detect_sp_phase.Goals as goal

pub returns-in_err-layout : goal.returns-in_err-layout
returns-in_err-layout c =
    let p = err_from_is_err_and c.from_residual.result c.from_residual.ensures.1 in
    rw (p.1, p.2) (refused_layout _ _ _ _ c.in_err-layout.ensures)

pub returns-then-not-are_whole : goal.returns-then-not-are_whole
returns-then-not-are_whole c = refused_length _ _ c.in_ok-layout.ensures (sym c.are_whole.ensures ∙ c.if-not-are_whole.true)

pub returns : goal.returns
returns c = accepted _ _ c.in_ok-layout.ensures (sym c.are_whole.ensures ∙ c.if-not-are_whole.false) c.answer.ensures
