-- `pilot_phase::Recording::answer` meets its contract: without pilots nothing is counted, and with them the counts tell the answer.
-- Assumes nothing.
use Rattle.params.specs.Params.{kind_codes}
use mathlib.Core.Path.{sym, ◌∙◌}
use Rattle.pilot_phase.proofs.Answers.{few_counted, no_pilots, some_pilots_lem}
use Rattle.pilot_phase.proofs.Recording.answer.Goals as goal

pub returns-then-not-has_pilots : goal.returns-then-not-has_pilots
returns-then-not-has_pilots c = no_pilots _ _ _ (sym c.has_pilots.ensures ∙ c.if-not-has_pilots.true)

pub counted-requires : goal.counted-requires
counted-requires c =
    few_counted _ (kind_codes c.args.self.now.layout.kinds) c.args.self.now.spectra.now c.args.self.now.whole c.total_carriers-w.ensures c.band_votes.ensures

pub returns : goal.returns
returns c =
    let s = c.args.self.now in
    c.counted.ensures
    ∙ some_pilots_lem _ (kind_codes s.layout.kinds) s.spectra.now (sym c.has_pilots.ensures ∙ c.if-not-has_pilots.false)
    c.total_carriers-w.ensures c.band_votes.ensures
