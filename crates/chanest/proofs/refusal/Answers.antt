-- `chanest::refusal` meets its contract: each return is the case of the definition that the tests on the way decide.
-- Assumes nothing.
use mathlib.Core.Path.{refl}
use Rattle.std.proofs.lemmas.Result.{err_from_is_err_and}
use Rattle.params.specs.Laws.{some_number}
use Rattle.chanest.specs.Codes.{by_phase, by_spectra, by_index, by_window, by_length, by_none}
use Rattle.chanest.proofs.refusal.Goals as goal

pub returns-then-current-gt3 : goal.returns-then-current-gt3
returns-then-current-gt3 c = by_phase _ _ _ _ c.if-current-gt3.true

pub returns-in_err-refusal : goal.returns-in_err-refusal
returns-in_err-refusal c =
    let p = err_from_is_err_and c.from_residual.result c.from_residual.ensures.1 in
    rw (p.1, p.2)
    (by_spectra _ _ _ _ _ c.total_carriers-k.ensures c.if-current-gt3.false _ c.in_err-refusal.ensures (some_number _))

pub returns-then-current-count : goal.returns-then-current-count
returns-then-current-count c =
    by_index _ _ _ _ _ c.total_carriers-k.ensures c.if-current-gt3.false _ c.in_ok-refusal.ensures refl c.if-current-count.true

pub returns-then-current-gt64 : goal.returns-then-current-gt64
returns-then-current-gt64 c =
    by_window _ _ _ _ _ c.total_carriers-k.ensures c.if-current-gt3.false _ c.in_ok-refusal.ensures refl c.if-current-count.false
    c.if-current-gt64.true

pub returns-then-n-k : goal.returns-then-n-k
returns-then-n-k c =
    by_length _ _ _ _ _ c.total_carriers-k.ensures c.if-current-gt3.false _ c.in_ok-refusal.ensures refl c.if-current-count.false
    c.if-current-gt64.false c.if-n-k.true

pub returns : goal.returns
returns c =
    by_none _ _ _ _ _ c.total_carriers-k.ensures c.if-current-gt3.false _ c.in_ok-refusal.ensures refl c.if-current-count.false
    c.if-current-gt64.false c.if-n-k.false
