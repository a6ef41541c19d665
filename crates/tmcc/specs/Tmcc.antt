-- The soft TMCC value (acquire.rs, `tmcc_soft`): over the TMCC carriers of the segments that a filter lets pass, the real parts of the products
-- of a spectrum and the conjugate of the one before it, added from -0.0. Below zero it reads as bit 1.
-- Definitions only.
use Rattle.params.specs.declared.Refusal.{Refusal}
use Rattle.params.specs.declared.Refusal.TheVariants.{BadMode}
use Rattle.std.specs.Prelude.{ℕ, ◌+◌, ◌*◌, Bool, true, cond, List, [], map, ◌≡◌, eqb, leb, get_or, length, Float, Option, Some, None, Result, Err}
use Rattle.std.specs.Float.{binary32}
use Rattle.ieee.specs.Constants.{minus_zero}
use Rattle.ieee.specs.Sums.{total}
use Rattle.lists.specs.Lists.{range, joined}
use Rattle.lists.specs.Refusals.{unless}
use Rattle.params.specs.declared.Mode.{Mode}
use Rattle.params.specs.declared.SegmentKind.{SegmentKind}
use Rattle.params.specs.Params.{carriers_per_segment, total_carriers, kind_from, kind_code, code_of, answered}
use Rattle.tables.specs.Places.{tmcc_of}
use Rattle.ofdm.specs.Band.{segment_at}
use Rattle.complex.specs.Complex.{product, conjugate}
use Rattle.spectra.specs.Spectra.{pair_at}
use Rattle.frame.specs.Operations.{are_kinds}

-- filter 0 lets coherent segments pass, 1 differential ones, 2 all
abbrev pub passes : ℕ → SegmentKind → Bool
passes filter kind = cond (eqb filter 2) true (eqb filter (kind_code kind))

-- the TMCC carriers of the segment at a place, if its kind passes
abbrev pub place_tmcc : Mode → List ℕ → ℕ → ℕ → List ℕ
place_tmcc mode kinds filter place =
    let kind = kind_from (get_or kinds (segment_at place) 0) in
    cond (passes filter kind) (map (λ p. place * carriers_per_segment mode + p) (tmcc_of mode kind (segment_at place))) []

-- all of them, ascending
unfoldable pub tmcc_carriers : Mode → List ℕ → ℕ → List ℕ
tmcc_carriers mode kinds filter = joined (place_tmcc mode kinds filter) (range 13)

-- carrier k of the later spectrum and of the earlier, which comes first
abbrev pub soft_term : ℕ → List Float → ℕ → Float
soft_term len xs k = (product binary32 (pair_at xs (len + k)) (conjugate (pair_at xs k))).re

unfoldable pub soft_value : Mode → List ℕ → ℕ → List Float → Float
soft_value mode kinds filter xs = total binary32 minus_zero (map (soft_term (total_carriers mode) xs) (tmcc_carriers mode kinds filter))

-- what refuses two spectra of a layout, with later tests behind: 1; 2; 5 unless two spectra
unfoldable pub two_spectra_code : Option Mode → List ℕ → ℕ → ℕ → ℕ
two_spectra_code None kinds floats later = 1
two_spectra_code (Some m) kinds floats later = unless (are_kinds kinds) 2 (unless (eqb floats (4 * total_carriers m)) 5 later)

-- the same, then 3 for a filter other than 0, 1 or 2
unfoldable pub soft_code : Option Mode → List ℕ → ℕ → ℕ → ℕ
soft_code mode kinds floats filter = two_spectra_code mode kinds floats (unless (leb filter 2) 3 0)

unfoldable pub soft_answer : Option Mode → List ℕ → List Float → ℕ → Result Float Refusal
soft_answer None kinds xs filter = Err BadMode
soft_answer (Some m) kinds xs filter = answered (soft_code (Some m) kinds (length xs) filter) (soft_value m kinds filter xs)

pub record SoftTold (mode : Option Mode) (kinds : List ℕ) (xs : List Float) (filter : ℕ) (r : Result Float Refusal) : Type 0 where
  pub number : code_of r ≡ soft_code mode kinds (length xs) filter
  pub answer : r ≡ soft_answer mode kinds xs filter
