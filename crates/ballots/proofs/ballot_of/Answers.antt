-- `ballots::ballot_of` meets its contract: the best so far, and the phases ahead, come to the choice, and the symbol is heard where a phase has energy.
-- Assumes nothing.
use mathlib.Core.Path.{◌≡◌, refl, ap, ◌∙◌}
use lib.ListN.{length}
use Rattle.params.specs.Params.{total_carriers}
use Rattle.params.specs.Laws.{sized}
use Rattle.prbs.specs.Buffered.{signs_length}
use native.Mathlib.Omega.{arith}
use Rattle.ballots.specs.Ballots.{choice_of, ballot_of}
use Rattle.ballots.proofs.Chosen.{compared, found, take, pass, done, some_more, some_of_four}
use Rattle.ballots.proofs.ballot_of.Goals as goal
use Rattle.ballots.proofs.ballot_of.Goals.{then-m-metric, else-m-metric}

pub invariant_of-spectrum : goal.invariant_of-spectrum
invariant_of-spectrum c =
    let mode = c.args.layout.mode in
    let size : length c.args.signs.now ≡ total_carriers mode = ap length c.requires.signed ∙ signs_length mode in
    record { spectrum = c.requires; as_many = omega (arith, c.requires.floats); few = omega (arith, (sized mode).band_high) }

pub loop-phase-init : goal.loop-phase-init
unfolding choice_of
loop-phase-init c = (record { passed = omega arith; same = refl }, record { some = refl })

pub loop-phase-preserved : goal.loop-phase-preserved
loop-phase-preserved c =
    let l = c.loop-phase in
    let h = c.loop-phase-test.true in
    let m = c.unwrap_or-m.ensures ∙ compared _ _ _ _ c.phase_metric-found.ensures in (
      elim c.if-m-metric.branch [
        | then-m-metric w ↦ rw (w.best-is, w.metric-is) (take l.invariant.0 h m w.if-m-metric.true)
        | else-m-metric w ↦ rw (w.best-is, w.metric-is) (pass l.invariant.0 h m w.if-m-metric.false)
      ],
      some_more l.invariant.1 (c.is_some-heard.ensures ∙ found _ _ _ _ c.phase_metric-found.ensures),
    )

pub returns : goal.returns
unfolding ballot_of
returns c =
    let l = c.loop-phase in
    let four : l.phase ≡ 4 = omega arith in
    let choice = done l.invariant.0 c.loop-phase-test.false in
    let heard = some_of_four l.invariant.1 four in
    λ i. record { choice = choice i; heard = heard i }
