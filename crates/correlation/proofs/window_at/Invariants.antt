-- `correlation::window_at`: the sums so far are those over the starts passed.
-- Assumes nothing.
use Rattle.std.proofs.Common.{◌+◌, ◌*◌}
use Rattle.lists.specs.Lists.{up_to}
use Rattle.correlation.specs.Inner.{Windowed}
use Rattle.correlation.proofs.window_at.Given as goal

abbrev pub invariant-loop-s : goal.invariant-loop-s
invariant-loop-s l =
    Windowed l.sums l.ng (up_to (λ s. l.d + s * l.p) l.s) (record {
      correlation = record { re = l.re; im = l.im };
      energy = l.energy;
    })
