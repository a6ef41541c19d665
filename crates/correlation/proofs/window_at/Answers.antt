-- `correlation::window_at` meets its contract: each start counted adds its guard's sums, and all that are counted end within the samples.
-- Assumes nothing.
use Rattle.std.proofs.Common.{◌+◌, ◌*◌, arith, ap, refl, ◌∙◌}
use Rattle.complex.specs.Complex.{Pair}
use Rattle.correlation.proofs.Windows.{windowed_all, windowed_more, windowed_none}
use Rattle.correlation.proofs.window_at.Goals as goal

pub loop-s-init : goal.loop-s-init
loop-s-init c = windowed_none c.args.sums.now c.args.ng

pub loop-s-preserved : goal.loop-s-preserved
loop-s-preserved c =
    let s = c.args in
    windowed_more s.sums.now s.ng (λ n. s.d + n * s.p) c.loop-s.s _ _ refl c.loop-s.invariant

pub returns : goal.returns
returns c =
    let s = c.args in
    let w = windowed_all s.p s.ng s.len s.d c.requires.offset c.requires.guard s.sums.now _ c.loop-s.s (omega arith) c.loop-s.invariant in
    record { re = ap (λ (x : Pair). x.re) c.new.ensures ∙ w.re; im = ap (λ (x : Pair). x.im) c.new.ensures ∙ w.im; energy = w.energy }
