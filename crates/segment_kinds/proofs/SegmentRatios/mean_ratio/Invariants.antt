-- `segment_kinds::SegmentRatios::mean_ratio` meets its contract: the sum and the count so far, with what the places ahead will add, are the whole.
-- Assumes nothing.
use Rattle.std.proofs.Common.{length, ◌∷◌, ◌++◌}
use Rattle.segment_kinds.specs.Inner.{is_telling, ratio_at}
use Rattle.segment_kinds.proofs.Adding.{Ahead}
use Rattle.segment_kinds.proofs.SegmentRatios.mean_ratio.Given as goal

abbrev pub invariant-loop-p : goal.invariant-loop-p
invariant-loop-p l =
    Ahead (is_telling l.self.tmcc.now l.self.ac1.now) (0 ∷ (l.ac2 ++ l.differential)) (ratio_at l.self.mode l.self.at.0 l.self.ratios.now)
    l.sum l.count (length l.yielded)
