-- `pilot_line::inverse_pilot` meets its contract: 1.0 divided by the pilots' amplitude is 0.75, and a minus sign goes through.
-- Assumes nothing.
use mathlib.Core.Path.{◌≡◌, refl}
use borrow.Author.Tests.{eq-eqb, ne_eqb}
use lib.Ieee.{binary32, of_bits, neg, div}
use Rattle.pilots.specs.Pilots.{pilot_amplitude}
use Rattle.pilot_line.proofs.inverse_pilot.Goals as goal

inverse : of_bits binary32 0x3f40_0000 ≡ div binary32 (of_bits binary32 0x3f80_0000) pilot_amplitude
unfolding of_bits div
inverse = refl

inverse_minus : neg (of_bits binary32 0x3f40_0000) ≡ div binary32 (of_bits binary32 0x3f80_0000) (neg pilot_amplitude)
unfolding of_bits div neg
inverse_minus = refl

pub returns-then-sign-eq0 : goal.returns-then-sign-eq0
returns-then-sign-eq0 c = rw (eq-eqb _ _ c.if-sign-eq0.true) inverse

pub returns-else-sign-eq0 : goal.returns-else-sign-eq0
returns-else-sign-eq0 c = rw (ne_eqb _ _ c.if-sign-eq0.false) inverse_minus
