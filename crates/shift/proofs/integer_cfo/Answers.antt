-- `shift::integer_cfo` meets its contract: each refusal is the case that the tests decide, and the search's best is the winner.
-- Assumes nothing.
use lib.IntN.{pos}
use Rattle.std.proofs.lemmas.Result.{err_from_is_err_and}
use Rattle.ieee.specs.Differences.{held_exactly, difference_is}
use Rattle.params.specs.Laws.{some_number}
use Rattle.params.specs.declared.Refusal.TheVariants.{BadBound}
use Rattle.shift.proofs.Codes.{by_spectra, by_bound, by_none}
use Rattle.shift.proofs.Answers.{shift_small, searchable, bad_mode, refused, answered}
use native.Mathlib.Omega.{arith}
use Rattle.shift.proofs.Segments.{pattern_few}
use mathlib.Core.Path.{refl}
use Rattle.shift.proofs.integer_cfo.Goals as goal

pub returns-in_err-m : goal.returns-in_err-m
returns-in_err-m c =
    let p = err_from_is_err_and c.from_residual.result c.from_residual.ensures.1 in
    rw (p.1, p.2, c.in_err-m.ensures.1) (bad_mode _ _ _ _ c.in_err-m.ensures.0)

pub returns-in_err-refusal : goal.returns-in_err-refusal
returns-in_err-refusal c =
    let p = err_from_is_err_and c.from_residual-in_err-refusal.result c.from_residual-in_err-refusal.ensures.1 in
    let code = by_spectra _ _ _ _ _ _ c.fft_size-n.ensures c.in_err-refusal.ensures (some_number _) in
    rw (p.1, p.2) (refused _ _ _ _ _ c.in_ok-m.ensures _ code)

pub returns-then-bound-n : goal.returns-then-bound-n
returns-then-bound-n c =
    refused _ _ _ _ _ c.in_ok-m.ensures BadBound (by_bound _ _ _ _ _ _ c.fft_size-n.ensures c.in_ok-refusal.ensures refl c.if-bound-n.true)

pub search-best-requires : goal.search-best-requires
search-best-requires c =
    searchable c.in_ok-m.m _ _ _ _ _ c.fft_size-n.ensures c.write_ratios.ensures c.put_pattern-bins.ensures c.if-bound-n.false

pub int_to_float-score : goal.int_to_float-score
int_to_float-score c = held_exactly (pos _) (rw c.put_pattern-bins.ensures (omega (arith, pattern_few c.in_ok-m.m)))

pub returns : goal.returns
returns c =
    let bins = c.fft_size-n.ensures in
    let bounded = c.if-bound-n.false in
    answered _ _ _ _ _ c.in_ok-m.ensures _ _ _ _ _ _ (by_none _ _ _ _ _ _ bins c.in_ok-refusal.ensures refl bounded)
    bins c.write_ratios.ensures c.put_pattern-bins.ensures refl c.search-best.ensures
    (difference_is _ _ (shift_small c.in_ok-m.m _ _ _ bins bounded c.search-best.ensures.inside))
