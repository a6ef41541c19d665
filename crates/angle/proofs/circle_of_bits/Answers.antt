-- `angle::circle_of_bits` meets its contract: the sizes of the two numbers, in units of 2 ^ -1074, have the angle of the numbers.
-- Assumes nothing.
use mathlib.Core.Path.{◌≡◌, sym, ap, ◌∙◌}
use Prim.Native.Nat.{◌%◌}
use native.Mathlib.Omega.{arith}
use lib.Dec.{leb}
use lib.Ieee.{binary64, of_bits}
use Rattle.angle.specs.Angle.{mirror, around}
use Rattle.angle.specs.Inner.{size_of}
use Rattle.angle.specs.Circle.{around_some}
use Rattle.angle.proofs.Sizes.{not_number, re_out, im_out, bits_circle, zero_around, size_some}
use Rattle.angle.proofs.circle_of_bits.Goals.{then-a-ge9218868437227405312-via-then-a-ge9218868437227405312}
use Rattle.angle.proofs.circle_of_bits.Goals.{then-a-ge9218868437227405312-via-else-a-ge9218868437227405312+then-b-ge9218868437227405312}
use Rattle.angle.proofs.circle_of_bits.Goals.{then-a-ge9218868437227405312-via-else-a-ge9218868437227405312+else-b-ge9218868437227405312+then-a-b-eq0}
use Rattle.angle.proofs.circle_of_bits.Goals as goal

pub returns-then-a-ge9218868437227405312 : goal.returns-then-a-ge9218868437227405312
returns-then-a-ge9218868437227405312 c =
    let x = c.args.x in
    let y = c.args.y in
    let l = leb 9223372036854775808 x in
    let r = leb 9223372036854775808 y in
    elim c.then-a-ge9218868437227405312.branch [
      | then-a-ge9218868437227405312-via-then-a-ge9218868437227405312 w ↦
          re_out (of_bits binary64 x) (of_bits binary64 y) (not_number x w.if-a-ge9218868437227405312.true)
      | then-a-ge9218868437227405312-via-else-a-ge9218868437227405312+then-b-ge9218868437227405312 w ↦
          im_out (of_bits binary64 x) (of_bits binary64 y) (not_number y w.if-b-ge9218868437227405312.true)
      | then-a-ge9218868437227405312-via-else-a-ge9218868437227405312+else-b-ge9218868437227405312+then-a-b-eq0 w ↦
          (let zero = w.if-a-b-eq0.true in
          let e : x % 9223372036854775808 ≡ 0 = omega arith in
          let f : y % 9223372036854775808 ≡ 0 = omega arith in
          sym (bits_circle x y (omega arith) (omega arith) (omega arith) (omega arith)
          ∙ (λ i. around l (size_of (e i)) r (size_of (f i))) ∙ zero_around l r))
    ]

pub returns : goal.returns
returns c =
    let s = c.args in
    let a = s.x % 9223372036854775808 in
    let b = s.y % 9223372036854775808 in
    let l = leb 9223372036854775808 s.x in
    let r = leb 9223372036854775808 s.y in
    c.mirror_of-2.ensures
    ∙ ap (mirror r 65536) (c.mirror_of.ensures ∙ ap (mirror l 32768) c.quarter_of-quarter.ensures.0)
    ∙ sym (around_some l (size_of a) r (size_of b) (size_some a b (omega arith)))
    ∙ sym (bits_circle s.x s.y (omega arith) (omega arith) (omega arith) (omega arith))
