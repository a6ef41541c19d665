-- The words of the contracts inside this crate, and of the answer that calls them.
-- Definitions only.
use Rattle.std.specs.Prelude.{ℕ, ◌≤◌, ◌<◌, List, ◌≡◌}
use Rattle.winner.specs.Winner.{won_by}

-- the phase with the most votes
pub record Won (counts : List ℕ) (r : ℕ) : Type 0 where
  pub won : r ≡ won_by counts
  pub phase : r < 4

-- v votes of n spectra: so few of either are an f32
pub record Few (v n : ℕ) : Type 0 where
  pub votes : v ≤ 1024
  pub spectra : n ≤ 1024
