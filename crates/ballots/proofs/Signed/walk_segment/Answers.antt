-- `ballots::walk_segment` meets its contract: i - 1 pilots are joined, and the next one is at hand.
-- Assumes nothing.
use Prim.Native.Nat.{◌+◌, ◌-◌}
use mathlib.Core.Path.{◌≡◌}
use native.Mathlib.Nat.{add-zero}
use native.Mathlib.Omega.{arith}
use Rattle.ballots.proofs.Walking.{none_walked, one_walked}
use Rattle.ballots.proofs.Signed.walk_segment.Goals as goal

pub loop-i-init : goal.loop-i-init
loop-i-init c = (rw add-zero c.pilot_at-pilot.ensures, none_walked)

pub loop-i-preserved : goal.loop-i-preserved
loop-i-preserved c =
    let i = c.loop-i.i in
    let same : i + 1 - 1 ≡ i = omega arith in
    let more : i - 1 + 1 ≡ i = omega arith in
    (rw same c.pilot_at-next.ensures, rw same (rw more at (one_walked c.loop-i.invariant.1 c.loop-i.invariant.0 c.join-run.ensures)))

pub returns : goal.returns
returns c =
    let all : c.loop-i.i - 1 + 1 ≡ c.args.count = omega (arith, c.requires.some) in
    rw all at (one_walked c.loop-i.invariant.1 c.loop-i.invariant.0 c.join.ensures)
