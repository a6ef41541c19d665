-- The words of the contracts inside this crate: of the root by halves, of the root's bits, of the guess. Nobody outside needs them.
-- Definitions only.
use Rattle.std.specs.Prelude.{◌≡◌, ℕ, ◌+◌, ◌-◌, ◌*◌, ◌^◌, ◌≤◌, ◌<◌}
use Rattle.std.specs.Float.{binary32, binary64}
use Rattle.std.specs.Float.Ieee.{of_bits}
use Rattle.root.specs.Root.{root_units, root_of}
use Rattle.ieee.specs.Narrow.{narrow_of}

-- ---- the root by halves

-- what a step asks: s and r are a root and its remainder, b is no more than 2 * s, and all of it stays within a word
pub record Ready (s r b hi lo : ℕ) : Type 0 where
  pub rem : r ≤ 2 * s
  pub base : b ≤ 2 * s
  pub some : 0 < b
  pub high : hi < b
  pub low : lo < b
  pub small : s * b ≤ 18014398509481984

-- what it gives: the root e and the remainder x of n * b * b + hi * b + lo, for n = s * s + r
pub record Refined (s r b hi lo e x : ℕ) : Type 0 where
  pub whole : e * e + x ≡ (s * s + r) * (b * b) + (hi * b + lo)
  pub rem : x ≤ 2 * e
  pub low : s * b ≤ e
  pub high : e ≤ s * b + b

-- s and r are the root and the remainder of a * 2 ^ 52
pub record Rooted (a s r : ℕ) : Type 0 where
  pub whole : s * s + r ≡ a * 4503599627370496
  pub rem : r ≤ 2 * s
  pub low : 4503599627370496 ≤ s

-- x is a * 4 ^ i, and has 53 or 54 digits
pub record Lifted (a x i : ℕ) : Type 0 where
  pub whole : x ≡ a * 2 ^ (i + i)
  pub few : i ≤ 26
  pub low : 4503599627370496 ≤ x
  pub high : x ≤ 18014398509481982

-- ---- bit patterns

-- the bits r are those of a finite f64, the one nearest to the root of n units
pub record RootBits (n r : ℕ) : Type 0 where
  pub is : of_bits binary64 r ≡ root_units n
  pub low : r < 9218868437227405312

-- ---- the narrowed root

-- the root of a lies between the points halfway from 8 * y to the multiples of 8 beside it, and not at them: squared, with 4 to spare
pub record Near (a y : ℕ) : Type 0 where
  pub low : (8 * y - 4) * (8 * y - 4) + 4 ≤ a
  pub high : a + 4 ≤ (8 * y + 4) * (8 * y + 4)

-- r is the f32 pattern of the narrowed root of what the f64 pattern b stands for
pub record NarrowRoot (b r : ℕ) : Type 0 where
  pub low : r ≤ 2139095040
  pub is : of_bits binary32 r ≡ narrow_of (root_of (of_bits binary64 b))
