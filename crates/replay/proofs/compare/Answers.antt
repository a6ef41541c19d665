-- `replay::compare` meets its contract: entry by entry.
-- Assumes nothing.
use Rattle.std.proofs.Common.{ap, sym, ◌∙◌, arith, nat_eq}
use Rattle.std.proofs.lemmas.List.{get_or-map}
use Rattle.tally.specs.Counts.{none_counted, one_counted}
use Rattle.replay.proofs.compare.Goals as goal

pub loop-i-init : goal.loop-i-init
loop-i-init g c = none_counted _ _ (omega (arith, c.well_formed)) (omega (arith, c.well_formed))

pub loop-i-preserved : goal.loop-i-preserved
loop-i-preserved g c =
    let bits = g.T.Entry.bits_of in
    let x = c.index-got-i in
    let got = c.bits.ensures ∙ ap bits x.is ∙ sym (get_or-map bits c.args.got.now c.loop-i.i x.result 0 (omega arith)) in
    let owed = c.entry.ensures in
    one_counted _ _ _ _ _ _ (λ j. nat_eq (got j) (owed j)) c.loop-i.invariant c.entry-in-loop-i.ensures
