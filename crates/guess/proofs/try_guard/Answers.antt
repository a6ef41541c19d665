-- `guess::try_guard` meets its contract: the best so far is the best of the offsets passed, whatever samples the sums hold.
-- Assumes nothing.
use Rattle.guess.specs.Guess.{offered}
use Rattle.guess.proofs.Searching.{next_number, next_offset}
use Rattle.guess.proofs.try_guard.Goals as goal

pub loop-d-preserved : goal.loop-d-preserved
loop-d-preserved c =
    λ xs h e.
    let f = c.fft_of-n in
    let s = c.args in
    next_number (offered xs s.mode s.guard) _ _ _ c.loop-d.d (c.loop-d.invariant xs h e)
    (next_offset xs s.mode s.guard f.result s.len f.ensures e s.sums.now _ _ c.loop-d.d _ h c.window_at-w.ensures c.offer-best.ensures)
