-- `pilot_times::sent_in` meets its contract: the offsets before the window are skipped, and of the others as many are counted as reach it.
-- Assumes nothing.
use native.Mathlib.Omega.{arith}
use Rattle.pilot_times.proofs.Searching.{room_fits, all_before, all_behind, some_inside}
use Rattle.pilot_times.proofs.sent_in.Goals as goal
use Rattle.pilot_times.proofs.sent_in.Goals.{then-offsets-before-via-then-offsets-before}
use Rattle.pilot_times.proofs.sent_in.Goals.{then-offsets-before-via-else-offsets-before+then-win-first}

pub returns-then-offsets-before : goal.returns-then-offsets-before
returns-then-offsets-before c =
    let p = c.requires in
    elim c.then-offsets-before.branch [
      | then-offsets-before-via-then-offsets-before w ↦ all_before _ _ p _ c.skipped-before.ensures w.if-offsets-before.true
      | then-offsets-before-via-else-offsets-before+then-win-first w ↦
          all_behind _ _ p _ c.skipped-before.ensures w.if-offsets-before.false w.if-win-first.true
    ]

pub overflow_add-room : goal.overflow_add-room
overflow_add-room c = room_fits _ _ (omega arith)

pub returns : goal.returns
returns c =
    some_inside _ _ c.requires _ c.skipped-before.ensures _ c.if-offsets-before.false c.if-win-first.false c.min.ensures
