-- `segment_kinds::SegmentRatios::mean_ratio` meets its contract: the sum and the count so far, with what the places ahead will add, are the whole.
-- Assumes nothing.
use Rattle.std.proofs.Common.{◌∷◌, [], arith, ◌∙◌, sym}
use Rattle.std.proofs.lemmas.Iterator.{YieldsList-from_slice}
use Rattle.std.proofs.lemmas.Iterator.Consumers.{YieldsList-from_chain, YieldsList-turn, YieldsList-end}
use Rattle.std.proofs.lemmas.List.{length_push}
use Rattle.segment_kinds.proofs.Adding.{skip, further, mean}
use Rattle.segment_kinds.proofs.SegmentRatios.mean_ratio.Goals as goal

pub loop-p-preserved-then-is_telling : goal.loop-p-preserved-then-is_telling
loop-p-preserved-then-is_telling c =
    let turn = YieldsList-turn
    (YieldsList-from_chain (YieldsList-from_chain (YieldsList-from_slice (0 ∷ []) cc) (YieldsList-from_slice c.args.ac2.now cc) (cc) (cc))
    (YieldsList-from_slice c.args.differential.now cc) (cc) (cc))
    c.loop-p.yielded _ c.loop-p.yielded_by _ _ c.in-Some.p c.in-Some.is c.next.ensures.steps in
    rw (length_push, c.band_carrier-carrier.ensures) (further _ _ _ c.loop-p.invariant turn (sym c.is_telling.ensures ∙ c.if-is_telling.true))

pub loop-p-preserved : goal.loop-p-preserved
loop-p-preserved c =
    let turn = YieldsList-turn
    (YieldsList-from_chain (YieldsList-from_chain (YieldsList-from_slice (0 ∷ []) cc) (YieldsList-from_slice c.args.ac2.now cc) (cc) (cc))
    (YieldsList-from_slice c.args.differential.now cc) (cc) (cc))
    c.loop-p.yielded _ c.loop-p.yielded_by _ _ c.in-Some.p c.in-Some.is c.next.ensures.steps in
    rw length_push (skip _ _ _ c.loop-p.invariant turn (sym c.is_telling.ensures ∙ c.if-is_telling.false))

pub returns : goal.returns
returns c =
    let over = YieldsList-end
    (YieldsList-from_chain (YieldsList-from_chain (YieldsList-from_slice (0 ∷ []) cc) (YieldsList-from_slice c.args.ac2.now cc) (cc) (cc))
    (YieldsList-from_slice c.args.differential.now cc) (cc) (cc))
    c.loop-p.yielded _ c.loop-p.yielded_by _ _ c.in-None.is c.next.ensures.steps in
    mean _ _ _ c.loop-p.invariant (omega (arith, over.1))
