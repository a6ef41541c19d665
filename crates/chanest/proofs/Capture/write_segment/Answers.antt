-- `chanest::Capture::write_segment` meets its contract: each turn stores the point that the times of its carrier's pilots give.
-- Assumes nothing.
use Prim.Native.Nat.{◌+◌}
use mathlib.Core.Path.{◌≡◌, refl, ◌∙◌}
use native.Mathlib.Omega.{arith}
use Rattle.chanest.specs.Grid.{carrier_of, segment_points}
use Rattle.chanest.proofs.Writing.{together, exchanged}
use Rattle.chanest.proofs.Points.{sent_ago, within, by_window, placed, stored}
use Rattle.chanest.proofs.Capture.write_segment.Goals as goal

pub write_point-requires : goal.write_point-requires
write_point-requires c =
    let s = c.args.self.now in
    let low = within s.layout.mode _ _ _ c.carriers_per_segment.ensures c.requires.2 c.loop-i-test.true in
    placed s.layout.mode low (c.at-times.ensures.ago _ c.requires.1) (c.loop-i.invariant.size ∙ c.requires.0)

pub loop-i-preserved : goal.loop-i-preserved
loop-i-preserved c =
    let s = c.args.self.now in
    let low = within s.layout.mode _ _ _ c.carriers_per_segment.ensures c.requires.2 c.loop-i-test.true in
    together (omega arith) (omega arith) c.loop-i.invariant
    (stored s.layout.mode low (sent_ago _ _ c.requires.1 _ c.back.ensures.0 c.at-times.ensures) (c.loop-i.invariant.size ∙ c.requires.0)
    s.spectra.now s.signs.now _ refl c.write_point.ensures)

pub returns : goal.returns
returns c =
    let m = c.args.self.now.layout.mode in
    let z : c.loop-i.i ≡ c.args.from.0 + segment_points m = omega (arith, c.loop-i-test.false, c.carriers_per_segment.ensures) in
    rw z at (exchanged c.loop-i.invariant (λ j a b. by_window c.args.self.now.captured (carrier_of j) _))
