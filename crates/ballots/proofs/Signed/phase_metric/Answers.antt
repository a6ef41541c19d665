-- `ballots::phase_metric` meets its contract: the run is over the pilots of the segments passed.
-- Assumes nothing.
use Prim.Native.Nat.{ℕ}
use mathlib.Core.Path.{◌≡◌, refl, sym, ap, ◌∙◌}
use lib.ListN.{get_or}
use Rattle.params.specs.Params.{kind_from, kind_codes}
use Rattle.ofdm.specs.Band.{segment_at}
use Rattle.ballots.proofs.Metric.{begin, walkable, again_coherent, again_differential, some_energy, no_energy}
use Rattle.ballots.proofs.Signed.phase_metric.Goals as goal
use Rattle.ballots.proofs.Signed.phase_metric.Goals.{in-Coherent, in-Differential}

pub loop-place-init : goal.loop-place-init
loop-place-init c = begin c.carriers_per_segment-c.ensures refl c.new.ensures refl

pub walk_segment-run-requires : goal.walk_segment-run-requires
walk_segment-run-requires c =
    walkable c.loop-place.invariant c.args.phase.in_cycle c.loop-place-test.true c.band_carrier-lowest.ensures c.args.self.now.spectrum

pub loop-place-preserved : goal.loop-place-preserved
loop-place-preserved c =
    let h = c.loop-place-test.true in
    let kinds = kind_codes c.args.self.now.layout.kinds in
    let known : kind_from (get_or kinds (segment_at c.loop-place.place) 0) ≡ c.kind.result =
    ap (λ (n : ℕ). kind_from (get_or kinds n 0)) (sym c.segment_at_position.ensures) ∙ sym c.kind.ensures in
    elim c.match-kind.branch [
      | in-Coherent w ↦
          rw w.run-is
          (again_coherent c.loop-place.invariant c.args.phase.in_cycle h w.band_carrier-lowest.ensures c.args.self.now.spectrum.signed
          (known ∙ w.in-Coherent.is) w.walk_segment-run.ensures)
      | in-Differential w ↦ rw w.run-is (again_differential c.loop-place.invariant h (known ∙ w.in-Differential.is) w.apart-run.ensures)
    ]

pub returns-then-run : goal.returns-then-run
returns-then-run c = some_energy c.loop-place.invariant c.loop-place-test.false c.if-run.true

pub returns-else-run : goal.returns-else-run
returns-else-run c = no_energy c.loop-place.invariant c.loop-place-test.false c.if-run.false
