-- The words of the contracts inside this crate: the last sixteen bits as a number, the newest lowest.
-- Definitions only.
use Rattle.std.specs.Prelude.{ℕ, ◌+◌, ◌*◌, ◌%◌, List, [], ◌∷◌, map, Float, take}
use Rattle.frame_start.specs.FrameStart.{bit_of}

-- the number that bits spell behind those of n
abbrev pub behind : ℕ → List ℕ → ℕ
behind n [] = n
behind n (b ∷ bs) = behind (n * 2 + b) bs

-- sixteen bits with one more: the oldest is shifted out
abbrev pub shifted_in : ℕ → ℕ → ℕ
shifted_in bits b = bits * 2 % 65536 + b

-- the last sixteen of the bits of the first i values
unfoldable pub register : List Float → ℕ → ℕ
register soft i = behind 0 (take i (map bit_of soft)) % 65536
