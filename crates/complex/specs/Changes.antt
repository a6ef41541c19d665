-- What demand 3 does to a pair of a spectrum or of samples: its sign changed or not, a quarter turn or none, amplified by a power of two. The words
-- of document 01, "The guess" and "What demand 3 compares".
-- Definitions only.
use Rattle.std.specs.Prelude.{ℕ, zero, suc, Bool, cond}
use Rattle.std.specs.Float.Ieee.{neg}
use Rattle.std.specs.Float.{binary32}
use Rattle.ieee.specs.Levels.{Whole, two}
use Rattle.complex.specs.Complex.{Pair, pair, scaled}

-- both parts with the other sign, or as they are
abbrev pub negated : Bool → Pair → Pair
negated b x = pair (cond b (neg x.re) x.re) (cond b (neg x.im) x.im)

-- a quarter turn makes (a, b) into (-b, a)
abbrev pub turned : Pair → Pair
turned x = pair (neg x.im) x.re

abbrev pub turn_if : Bool → Pair → Pair
turn_if b x = cond b (turned x) x

-- amplified: both parts times 2 ^ k, rounded to f32
abbrev pub amplified : ℕ → Pair → Pair
amplified k x = scaled binary32 x (two k)

-- a gain of 1 leaves a pair as it is, whatever it holds
abbrev pub gain_by : ℕ → Pair → Pair
gain_by zero x = x
gain_by (suc k) x = amplified (suc k) x

-- the largest gain is 2 ^ 8, 256
abbrev pub most : ℕ
most = 8

-- both parts whole numbers from -32,768 to 32,768
pub record WholePair (x : Pair) : Type 0 where
  pub re : Whole 15 x.re
  pub im : Whole 15 x.im

-- ---- a change of spectra, or of samples
pub record Change : Type 0 where
  -- which spectra change the sign of both parts of every pair
  pub negates : ℕ → Bool
  -- whether every pair (a, b) becomes (-b, a)
  pub turns : Bool
  -- every pair is multiplied by 2 ^ gain
  pub gain : ℕ

-- a pair of spectrum j, changed
abbrev pub changed_pair : Change → ℕ → Pair → Pair
changed_pair c j x = negated (c.negates j) (turn_if c.turns (gain_by c.gain x))

-- a change of samples: all of them negated, or none
abbrev pub of_samples : Bool → Change → Change
of_samples negates c = record { negates = λ j. negates; turns = c.turns; gain = c.gain }
