-- The words of the contracts inside this crate.
-- Definitions only.
use Rattle.std.specs.Prelude.{ℕ, ◌+◌, ◌*◌, ◌<◌, List, map, ◌≡◌, get_or, length, Float, Option, Some, None, Result, Ok, Err}
use Rattle.std.specs.Float.{binary32}
use Rattle.ieee.specs.Sums.{total}
use Rattle.params.specs.declared.Mode.{Mode}
use Rattle.params.specs.declared.Refusal.{Refusal}
use Rattle.params.specs.declared.Refusal.TheVariants.{BadPhase}
use Rattle.params.specs.declared.SegmentKind.{SegmentKind}
use Rattle.params.specs.Params.{carriers_per_segment, total_carriers, kind_code}
use Rattle.tmcc.specs.Tmcc.{soft_term}

-- a filter's number from outside: the only kind that passes, or none where all do
abbrev pub filter_number : Option SegmentKind → ℕ
filter_number None = 2
filter_number (Some kind) = kind_code kind

abbrev pub FilterTold : ℕ → Result (Option SegmentKind) Refusal → Type 0
FilterTold number (Ok filter) = number ≡ filter_number filter
FilterTold number (Err refusal) = (2 < number) × (refusal ≡ BadPhase)

-- places of the segment at a place of the band, in two spectra, which are n floats
pub record Addable (mode : Mode) (place : ℕ) (places : List ℕ) (n : ℕ) : Type 0 where
  pub in_band : place < 13
  pub in_segment : (i : ℕ) → i < length places → get_or places i 0 < carriers_per_segment mode
  pub two : n ≡ 4 * total_carriers mode

-- the terms at those places
abbrev pub terms_at : Mode → ℕ → List Float → List ℕ → List Float
terms_at mode place xs places = map (λ p. soft_term (total_carriers mode) xs (place * carriers_per_segment mode + p)) places

-- the same added to a sum
unfoldable pub added_to : Float → Mode → ℕ → List Float → List ℕ → Float
added_to start mode place xs places = total binary32 start (terms_at mode place xs places)
