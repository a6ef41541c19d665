-- `angle::angle` meets its contract: half a turn and less stays, more is a turn less.
-- Assumes nothing.
use mathlib.Core.Path.{◌≡◌, refl, sym, ap, ◌∙◌, subst}
use Prim.Native.Nat.{ℕ, ◌<◌}
use native.Mathlib.Omega.{arith}
use borrow.Author.Tests.{lt-leb}
use lib.IntN.{ℤ, pos, ◌-ℤ◌}
use mir.Syntax.{w32}
use mir.Val.{SFits, to_z}
use mir.ValLaws.{to_z_pos, to_z-of_z}
use Rattle.angle.specs.Angle.{signed, angle_of}
use Rattle.angle.specs.Circle.{signed_near, signed_far}
use Rattle.angle.proofs.angle.Goals as goal

-- a turn less, in 32 bits
module _ (c : ℕ) (far : 32768 < c) (most : c < 65536) where
  less : to_z w32 c -ℤ to_z w32 65536 ≡ signed c
  less = ap (λ (z : ℤ). z -ℤ pos 65536) (to_z_pos w32 c (omega arith)) ∙ sym (rw (lt-leb c 32768 far) refl)

  less_fits : SFits w32 (to_z w32 c -ℤ to_z w32 65536)
  less_fits = subst (SFits w32) (sym (less ∙ signed_far c far most)) (record { sfits = omega arith })

pub returns-then-c-le32768 : goal.returns-then-c-le32768
unfolding angle_of
returns-then-c-le32768 c =
    let r = c.circle_of-c.result in
    to_z_pos w32 r (omega arith) ∙ sym (signed_near r (omega arith)) ∙ ap signed c.circle_of-c.ensures.0

pub returns : goal.returns
unfolding angle_of
returns c =
    let r = c.circle_of-c.result in
    to_z-of_z w32 _ (less_fits r (omega arith) (omega arith)) ∙ less r (omega arith) (omega arith) ∙ ap signed c.circle_of-c.ensures.0
