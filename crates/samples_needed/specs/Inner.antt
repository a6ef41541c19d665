-- The words of the contracts inside this crate.
-- Definitions only.
use Rattle.std.specs.Prelude.{ℕ, ◌≤◌, true, List, ◌≡◌}
use Rattle.lists.specs.Tests.{all_in}
use Rattle.samples_needed.specs.Samples.{is_guard}

-- ---- guards and symbols whose samples are few enough
pub record Counted (guards : List ℕ) (symbols : ℕ) : Type 0 where
  pub known : all_in is_guard guards ≡ true
  pub few : symbols ≤ 64
