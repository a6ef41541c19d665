-- `guess::try_guard`: the best so far is the best of the offsets passed, whatever samples the sums hold.
-- Assumes nothing.
use Rattle.std.proofs.Common.{◌≡◌, List}
use lib.Ieee.{Float}
use Rattle.lists.specs.Lists.{range}
use Rattle.samples_needed.specs.Samples.{fft_of}
use Rattle.correlation.specs.Correlation.{lags_in}
use Rattle.correlation.specs.Inner.{Holds}
use Rattle.guess.specs.Guess.{offered, scan}
use Rattle.guess.proofs.try_guard.Given as goal

abbrev pub invariant-loop-d : goal.invariant-loop-d
invariant-loop-d l =
    (xs : List Float) → Holds (fft_of l.mode) xs l.sums → l.len ≡ lags_in (fft_of l.mode) xs
    → l.best ≡ scan (offered xs l.mode l.guard) l.initial.best (range l.d)
