-- `ratio::bin_ratio` meets its contract: refused as spectra of one bin are, or the ratio of its sums.
-- Assumes nothing.
use mathlib.Core.Path.{sym}
use Rattle.std.proofs.lemmas.Result.{err_from_is_err_and}
use Rattle.ratio.proofs.Bins.{some_pair, bin_refused, bin_answered, ratio_of_lem}
use Rattle.ratio.proofs.bin_ratio.Goals as goal

pub returns-in_err-refusal : goal.returns-in_err-refusal
returns-in_err-refusal c =
    let p = err_from_is_err_and c.from_residual.result c.from_residual.ensures.1 in
    rw (p.1, p.2) (bin_refused _ _ c.in_err-refusal.ensures)

pub bin_sums-requires : goal.bin_sums-requires
bin_sums-requires c = some_pair _ (sym c.in_ok-refusal.ensures)

pub returns : goal.returns
returns c = bin_answered _ _ c.in_ok-refusal.ensures (ratio_of_lem _ _ _ c.ratio.ensures c.bin_sums.ensures)
