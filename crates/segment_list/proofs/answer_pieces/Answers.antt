-- `segment_list::answer_pieces` meets its contract: each piece's text is stored behind those before it, until one is cut off or the last line is answered.
-- Assumes nothing.
use mathlib.Core.List.{[]}
use mathlib.Core.Path.{◌≡◌, refl, sym, ◌∙◌}
use native.Mathlib.Omega.{arith}
use Prim.Native.Nat.{ℕ}
use Rattle.std.proofs.Common.{rules, Result, Ok, Err, IsErr}
use Rattle.text.specs.declared.Cut.{Cut}
use Rattle.text.specs.Put.{cut}
use Rattle.open_line.specs.Gather.{Gathers}
use Rattle.open_line.specs.Gathered.{gathers_new, last_held}
use Rattle.segment_list.specs.Fed.{takes_none, takes_slice, takes_copied, takes_cut, takes_whole, takes_all}
use Rattle.text.specs.Laws.{put_read, cut_as, cut_whole}
use Rattle.segment_list.proofs.answer_pieces.Goals as goal

-- there is one error
err_cut : (r : Result ℕ Cut) → IsErr r → r ≡ Err cut
err_cut (Ok n) h = absurd (search rules)
err_cut (Err e) h = refl

pub loop-from-init : goal.loop-from-init
loop-from-init c = (omega arith, omega arith, takes_none _ _ _)

pub returns-in_err-to : goal.returns-in_err-to
returns-in_err-to c =
    let fed = c.feed-fed.ensures in
    let on = fed.progress (omega arith) c.loop-from-test.true in
    let new : Gathers c.new-held.result [] = rw c.new-held.ensures gathers_new in
    let cut_off = takes_cut c.args.input.now c.loop-from.from c.feed-fed.result.used (omega arith) new c.loop-from.invariant.2 (omega arith) fed.takes
    (fed.room (omega arith)) (rw c.in_err-to.was at c.put_cut.ensures) in
    rw (err_cut c.from_residual.result c.from_residual.ensures.0) cut_off

pub loop-from-preserved : goal.loop-from-preserved
loop-from-preserved c =
    let fed = c.feed-fed.ensures in
    let on = fed.progress (omega arith) c.loop-from-test.true in
    let whole = cut_whole (rw c.in_ok-to.was at c.put_cut.ensures) in (
      fed.within (omega arith),
      omega (arith, whole.1),
      takes_slice c.args.input.now c.loop-from.from c.feed-fed.result.used (omega arith) c.loop-from.invariant.2
          (takes_copied fed.takes (fed.room (omega arith)) whole.0),
    )

pub returns : goal.returns
returns c =
    let held = c.loop-from.held in
    let new : Gathers c.new-held.result [] = rw c.new-held.ensures gathers_new in
    let read = put_read c.finish-n.ensures.put (omega (arith, c.finish-n.ensures.upper_bound)) in
    let all = takes_whole c.args.input.now c.loop-from.from c.loop-from-test.false c.loop-from.invariant.2 in
    takes_all new all (omega arith) (λ s g. cut_as (last_held held s g ∙ sym read) c.put_cut-2.ensures)
