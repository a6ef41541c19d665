-- `angle::circle_of` meets its contract: a number that is no NaN has the bits of its value.
-- Assumes nothing.
use mathlib.Core.Path.{sym, ap, ◌∙◌, subst}
use Prim.Native.Nat.{ℕ, ◌<◌}
use native.Mathlib.Omega.{arith}
use lib.Dec.{T}
use lib.Ieee.{binary64, fits}
use lib.Ieee.Bits.{of_bits-to_bits}
use Rattle.ieee.specs.Nans.{is_the_nan}
use Rattle.angle.specs.Angle.{circle_of, finite}
use Rattle.angle.specs.Facts.{circle_most}
use Rattle.angle.proofs.Sizes.{re_out, im_out}
use Rattle.angle.proofs.circle_of.Goals.{then-is_nan-via-then-is_nan, then-is_nan-via-else-is_nan+then-is_nan-2}
use Rattle.angle.proofs.circle_of.Goals as goal

pub returns-then-is_nan : goal.returns-then-is_nan
returns-then-is_nan c =
    let s = c.args in
    elim c.then-is_nan.branch [
      | then-is_nan-via-then-is_nan w ↦
          (re_out s.re s.im (ap finite (is_the_nan s.re (sym c.is_nan.ensures.value ∙ w.if-is_nan.true))), omega arith)
      | then-is_nan-via-else-is_nan+then-is_nan-2 w ↦
          (im_out s.re s.im (ap finite (is_the_nan s.im (sym w.is_nan-else-is_nan.ensures.value ∙ w.if-is_nan-2.true))), omega arith)
    ]

pub returns : goal.returns
returns c =
    let s = c.args in
    let hx : T (fits binary64 s.re) = subst T (sym c.well_formed.0.1) tt in
    let hy : T (fits binary64 s.im) = subst T (sym c.well_formed.1.0.1) tt in
    let e = c.circle_of_bits.ensures ∙ (λ i. circle_of (of_bits-to_bits binary64 s.re hx i) (of_bits-to_bits binary64 s.im hy i)) in
    (e, subst (λ (n : ℕ). n < 65536) (sym e) (circle_most s.re s.im))
