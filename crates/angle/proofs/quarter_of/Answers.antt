-- `angle::quarter_of` meets its contract: the sizes are in the order of their bits.
-- Assumes nothing.
use mathlib.Core.Path.{◌≡◌, sym, ap, ◌∙◌, subst}
use Prim.Native.Nat.{ℕ, ◌-◌, ◌≤◌}
use native.Mathlib.Omega.{arith}
use Rattle.angle.specs.Angle.{slope, octant}
use Rattle.angle.specs.Inner.{size_of}
use Rattle.angle.specs.Circle.{quarter_low, quarter_high}
use Rattle.angle.proofs.Numbers.{slope_most}
use Rattle.angle.proofs.Sizes.{size_le, size_less}
use Rattle.angle.proofs.quarter_of.Goals as goal

flat : (a b q : ℕ) → b ≤ a → q ≡ slope (size_of a) (size_of b) → q ≤ 4194304
flat a b q h e = subst (λ (z : ℕ). z ≤ 4194304) (sym e) (slope_most (size_of a) (size_of b) (size_le b a h))

pub octant_of-requires : goal.octant_of-requires
octant_of-requires c =
    let s = c.args in
    flat s.a.bits s.b.bits c.slope_of.result (omega arith) c.slope_of.ensures

pub returns-then-b-a : goal.returns-then-b-a
returns-then-b-a c =
    let s = c.args in
    let low = quarter_low (size_of s.a.bits) (size_of s.b.bits) (size_le s.b.bits s.a.bits (omega arith)) in
    (c.octant_of.ensures.0 ∙ ap octant c.slope_of.ensures ∙ sym low, omega arith)

pub octant_of-requires-2 : goal.octant_of-requires-2
octant_of-requires-2 c =
    let s = c.args in
    flat s.b.bits s.a.bits c.slope_of-2.result (omega arith) c.slope_of-2.ensures

pub returns : goal.returns
returns c =
    let s = c.args in
    let high = quarter_high (size_of s.a.bits) (size_of s.b.bits) (size_less s.a.bits s.b.bits (omega arith)) in
    (ap (λ (z : ℕ). 16384 - z) (c.octant_of-2.ensures.0 ∙ ap octant c.slope_of-2.ensures) ∙ sym high, omega arith)
