-- `shift::put_segment` meets its contract: the bins of the row's places are stored behind one another.
-- Assumes nothing.
use Rattle.shift.proofs.Storing.{Left}
use Rattle.shift.proofs.AcRow.{bins_at}
use Rattle.shift.proofs.put_segment.Given as goal

abbrev pub invariant-loop-i : goal.invariant-loop-i
invariant-loop-i l = Left (bins_at l.mode l.place.0 l.row) l.initial.out l.at l.i l.out
