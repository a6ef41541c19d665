-- `angle::slope_of` meets its contract: the quotient of the digits, moved down by the difference of the exponents.
-- Assumes nothing.
use mathlib.Core.Path.{sym, ◌∙◌}
use Prim.Native.Nat.{◌-◌}
use native.Mathlib.Omega.{arith}
use Rattle.angle.proofs.Numbers.{moved_out}
use Rattle.angle.proofs.Sizes.{digits_most, digits_twice, slope_is}
use Rattle.angle.proofs.slope_of.Goals as goal

pub divided-w-requires : goal.divided-w-requires
divided-w-requires c =
    let s = c.args in
    let p = c.size-p.ensures.0 in
    let q = c.size-q.ensures.0 in
    let t = digits_twice s.a.bits s.b.bits (omega arith) (omega arith) in
    let m = digits_most s.a.bits in
    let n = digits_most s.b.bits in
    (omega arith, omega arith, omega arith)

pub returns-then-d-gt22 : goal.returns-then-d-gt22
returns-then-d-gt22 c =
    let p = c.size-p in
    let q = c.size-q in
    let s = c.args in
    let w = c.divided-w in
    sym (moved_out w.result (p.result.k - q.result.k) w.ensures.1 c.if-d-gt22.true)
    ∙ slope_is s.a.bits s.b.bits q.result.m p.result.m q.result.k p.result.k w.result (omega arith)
    q.ensures.0 p.ensures.0 q.ensures.1 p.ensures.1 w.ensures.0

pub returns : goal.returns
returns c =
    let p = c.size-p in
    let q = c.size-q in
    let s = c.args in
    let w = c.divided-w in
    slope_is s.a.bits s.b.bits q.result.m p.result.m q.result.k p.result.k w.result (omega arith)
    q.ensures.0 p.ensures.0 q.ensures.1 p.ensures.1 w.ensures.0
