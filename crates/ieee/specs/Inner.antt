-- The word of the contract inside this crate, of narrowing by bits. Nobody outside needs it but `root`, which narrows a root by its bits.
-- Definitions only.
use Rattle.std.specs.Prelude.{◌≡◌, Bool, cond, ℕ, ◌+◌, ◌≤◌}
use Rattle.std.specs.Float.{binary32, binary64}
use Rattle.std.specs.Float.Ieee.{of_bits}
use Rattle.ieee.specs.Narrow.{narrow_of}

-- r, with any sign before it, is the f32 pattern of what the f64 pattern b, with that sign, narrows to
pub record Narrowed (b r : ℕ) : Type 0 where
  pub low : r ≤ 2139095040
  pub is : (s : Bool) → of_bits binary32 (cond s 2147483648 0 + r) ≡ narrow_of (of_bits binary64 (cond s 9223372036854775808 0 + b))
