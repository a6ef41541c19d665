-- `tmcc::soft_value` meets its contract: the terms of the segments so far are added up.
-- Assumes nothing.
use Rattle.params.specs.Params.{kind_codes}
use mathlib.Core.Path.{◌≡◌}
use native.Mathlib.Omega.{arith}
use Rattle.tmcc.specs.Inner.{filter_number}
use Rattle.tmcc.proofs.Segments.{addable, begin, skip, further, done}
use Rattle.tmcc.proofs.soft_value.Goals as goal
use Rattle.tmcc.proofs.soft_value.Goals.{then-passes, else-passes}

pub loop-number-init : goal.loop-number-init
loop-number-init c = begin c.args.layout.mode (kind_codes c.args.layout.kinds) (filter_number c.args.filter) c.args.spectra.now

pub add_places-sum-requires : goal.add_places-sum-requires
add_places-sum-requires c =
    addable c.kind-kind.result c.loop-number-test.true c.requires c.segment_at_position-seg.result.in_band c.tmcc_positions-row.ensures

pub loop-number-preserved : goal.loop-number-preserved
loop-number-preserved c =
    elim c.if-passes.branch [
      | then-passes w ↦
          rw w.sum-is
          (further _ _ _ _ _ _ c.loop-number.invariant _ _ _ c.segment_at_position-seg.ensures c.kind-kind.ensures c.passes.ensures
          _ _ w.if-passes.true w.tmcc_positions-row.ensures w.add_places-sum.ensures)
      | else-passes w ↦
          rw w.sum-is
          (skip _ _ _ _ _ _ c.loop-number.invariant _ _ _ c.segment_at_position-seg.ensures c.kind-kind.ensures c.passes.ensures
          w.if-passes.false)
    ]

pub returns : goal.returns
returns c =
    let all : c.loop-number.number ≡ 13 = omega arith in
    done _ _ _ _ _ (rw all at c.loop-number.invariant)
