-- `segment_list::feed` meets its contract: each turn takes a byte more behind those taken.
-- Assumes nothing.
use Rattle.std.proofs.Common.{arith, refl, sym, leb-true, ◌∙◌}
use Rattle.segment_list.proofs.Turns.{takes_start, takes_more}
use Rattle.segment_list.proofs.feed.Goals as goal

pub loop-i-init : goal.loop-i-init
loop-i-init c = record { takes = takes_start c.args.input.now c.args.from _ _ _; room = omega arith; still = λ e. refl }

pub loop-i-preserved : goal.loop-i-preserved
loop-i-preserved c = record {
  takes = takes_more _ _ _ c.loop-i.auto.i c.loop-i-test.true c.loop-i.invariant.takes c.take_byte-taken.ensures.takes;
  room = omega (arith, c.take_byte-taken.ensures.written_bound, leb-true _ _ (sym c.has_room.ensures ∙ c.if-not-has_room.false));
  still = λ e. absurd (omega (arith, c.loop-i.auto.i));
}
