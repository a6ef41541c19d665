-- `root::near_root` meets its contract: the patterns that it reads as floats are no NaN's, and 23 digits with a leading one are 24.
-- Assumes nothing.
use lib.Ieee.{binary64}
use native.Mathlib.Omega.{arith}
use Rattle.ieee.specs.Patterns.{no_nan_bits}
use Rattle.root.proofs.near_root.Goals as goal

pub float_from_bits-x : goal.float_from_bits-x
float_from_bits-x c = no_nan_bits binary64 _ (omega arith)

pub float_from_bits-r0 : goal.float_from_bits-r0
float_from_bits-r0 c = no_nan_bits binary64 _ (omega arith)
