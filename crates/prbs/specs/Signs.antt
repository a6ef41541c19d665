-- The pilot signs (ARIB STD-B31, 3.13.1, Figure 3-31, Tables 3-16 and 3-19): a register of x^11 + x^9 + 1, loaded afresh for
-- each segment.
-- Definitions only.
use Rattle.std.specs.Prelude.{ℕ, zero, suc, ◌/◌, ◌%◌, cond, List, [], ◌∷◌, ◌++◌, ◌≡◌, eqb, get_or, take}
use Rattle.lists.specs.Lists.{up_to, joined}
use Rattle.params.specs.declared.Mode.{Mode}
use Rattle.params.specs.declared.Mode.TheVariants.{M1, M2, M3}
use Rattle.params.specs.Params.{carriers_per_segment}
use Rattle.tables.specs.Places.{init_of}
use Rattle.ofdm.specs.Band.{order}

-- the eleven bits D1 to D11 of a row of Table 3-16
abbrev pub loaded : ℕ → List ℕ
loaded n =
    n / 1024 % 2 ∷ n / 512 % 2 ∷ n / 256 % 2 ∷ n / 128 % 2 ∷ n / 64 % 2 ∷ n / 32 % 2 ∷ n / 16 % 2 ∷ n / 8 % 2 ∷ n / 4 % 2 ∷ n / 2 % 2 ∷ n % 2 ∷ []

-- the exclusive or of two bits
abbrev pub xor : ℕ → ℕ → ℕ
xor a b = cond (eqb a b) 0 1

-- one step: D9 ⊕ D11 enters D1, and each bit moves one place towards D11
abbrev pub stepped : List ℕ → List ℕ
stepped b = xor (get_or b 8 0) (get_or b 10 0) ∷ take 10 b

-- what a step of the register gives: the sign, D11, and the register handed on
pub record Step (bits : List ℕ) (w : ℕ) (next : List ℕ) : Type 0 where
  pub sign : w ≡ get_or bits 10 0
  pub register : next ≡ stepped bits

-- the register after n steps
unfoldable pub after : ℕ → List ℕ → List ℕ
after zero b = b
after (suc n) b = stepped (after n b)

-- the sign that the next step gives: D11
abbrev pub sign_after : List ℕ → ℕ → ℕ
sign_after b n = get_or (after n b) 10 0

-- the edge carrier's sign
abbrev pub edge_sign : Mode → ℕ
edge_sign M1 = 1
edge_sign M2 = 0
edge_sign M3 = 0

-- the signs of a segment's carriers, lowest first
unfoldable pub segment_signs : Mode → ℕ → List ℕ
segment_signs mode row = up_to (sign_after (loaded (init_of mode row))) (carriers_per_segment mode)

-- the signs of the band, its edge last
unfoldable pub band_signs : Mode → List ℕ
band_signs mode = joined (segment_signs mode) order ++ (edge_sign mode ∷ [])
