-- The definition at a few lists, so that a reader sees it work: either word spelt by values of -1.0 and 1.0; unusual values; a list with two
-- starts, of which either may be told; and values that have none until one more is added.
-- Assumes nothing.
use Rattle.std.specs.Prelude.{ℕ, cond, List, [], ◌∷◌, ◌++◌, map, ◌≡◌, refl, eqb, Some, None, Float, take}
use Rattle.std.proofs.Common.{lit<}
use Rattle.std.specs.Float.{binary32}
use Rattle.std.specs.Float.Ieee.{lt, of_bits}
use Rattle.frame_start.specs.FrameStart.{written, word_bits, bit_of, start_at, Stands, StartTold}
use Rattle.frame_start.specs.Facts.{too_short}
use Rattle.frame_start.specs.declared.SyncWord.TheVariants.{W0, W1}

-- -1.0 for each 1, and 1.0 for each 0
abbrev spelt : List ℕ → List Float
spelt bits = map (λ b. cond (eqb b 1) (of_bits binary32 0xbf80_0000) (of_bits binary32 0x3f80_0000)) bits

word_0 : Stands (spelt written) 0 W0
unfolding Stands bit_of lt of_bits
word_0 = refl

word_1 : Stands (spelt (0 ∷ word_bits W1 ++ (1 ∷ []))) 1 W1
unfolding Stands bit_of lt of_bits
word_1 = refl

-- +0.0, -0.0, two NaNs, infinity; minus infinity, the number nearest below zero
unusual : map (λ b. bit_of (of_bits binary32 b)) (0 ∷ 0x8000_0000 ∷ 0x7fc0_0000 ∷ 0xff80_0001 ∷ 0x7f80_0000 ∷ 0xff80_0000 ∷ 0x8000_0001 ∷ [])
    ≡ 0 ∷ 0 ∷ 0 ∷ 0 ∷ 0 ∷ 1 ∷ 1 ∷ []
unfolding bit_of lt of_bits
unusual = refl

either : StartTold (spelt (word_bits W1 ++ written)) (Some (start_at 0 W1)) × StartTold (spelt (word_bits W1 ++ written)) (Some (start_at 16 W0))
unfolding StartTold Stands bit_of lt of_bits
either = (refl, refl)

one_short : StartTold (spelt (take 15 written)) None
one_short = too_short (spelt (take 15 written)) (lit< tt)
