-- A band that is written segment by segment: bounds of its parts, the whole once the edge is written.
-- Assumes nothing.
use Rattle.std.specs.Prelude.{ℕ, ◌+◌, ◌*◌, ◌-◌, ◌≤◌, ◌<◌, List, [], ◌∷◌, ◌++◌, ◌≡◌, refl, length, get_or, take, drop, set}
use Rattle.std.proofs.Common.{sym, ◌∙◌, zero-mul, arith}
use borrow.Rule.Slice.PartMut.{mid_of, put_mid, mid_len}
use Rattle.lists.specs.Lists.{joined}
use Rattle.lists.specs.Fill.{parts_again, parts_last}
use Rattle.params.specs.declared.Mode.{Mode}
use Rattle.params.specs.Params.{carriers_per_segment, total_carriers}
use Rattle.params.specs.Laws.{sized}
use Rattle.ofdm.specs.Band.{order, first_carrier}
use Rattle.ofdm.specs.Laws.{segment_ends}

module _ (mode : Mode) (f : ℕ → List ℕ) (size : (seg : ℕ) → length (f seg) ≡ carriers_per_segment mode) (old : List ℕ) where
  -- the segments below place are written; c is the code's count of a segment's carriers
  pub record WrittenTo (c place : ℕ) (out : List ℕ) : Type 0 where
    pub carriers : c ≡ carriers_per_segment mode
    pub band : length old ≡ total_carriers mode
    pub passed : place ≤ 13
    pub same_size : length out ≡ length old
    pub so_far : out ≡ joined f (take place order) ++ drop (place * c) old

  pub begin : (c : ℕ) → c ≡ carriers_per_segment mode → length old ≡ total_carriers mode → WrittenTo c 0 old
  begin c e l = record { carriers = e; band = l; passed = omega arith; same_size = refl; so_far = rw zero-mul }

  module _ (c place : ℕ) (out : List ℕ) (w : WrittenTo c place out) where
    pub part_small : length old ≤ 5617
    part_small = omega (arith, w.band, (sized mode).band_high)

    -- the next segment starts at carrier `from`
    module _ (from : ℕ) (starts : from ≡ first_carrier mode place) (h : place < 13) where
      place_starts : from ≡ place * c
      place_starts = rw w.carriers starts

      pub part_ends : from + c < length old
      part_ends = rw (starts, w.carriers, w.band) (segment_ends mode place h)

      pub part_size : length (mid_of from (from + c - from) out) ≡ carriers_per_segment mode
      part_size =
          let whole : from + c - from ≡ c = omega arith in
          mid_len from (from + c) out (omega (arith, part_ends, w.same_size)) ∙ (whole ∙ w.carriers)

      pub again : (part out' : List ℕ) → length out' ≡ length out → part ≡ f (get_or order place 0)
          → out' ≡ put_mid from (from + c - from) out part → WrittenTo c (place + 1) out'
      again part out' same e put =
          record {
            carriers = w.carriers;
            band = w.band;
            passed = omega arith;
            same_size = same ∙ w.same_size;
            so_far =
                put ∙ (rw place_starts (parts_again f c (λ s. size s ∙ sym w.carriers) order old out part place h w.so_far e));
          }

    -- the edge is the carrier behind the last segment
    module _ (edge : ℕ) (starts : edge ≡ first_carrier mode 13) where
      pub edge_inside : edge < length old
      edge_inside = omega (arith, w.band, (sized mode).band)

      pub finish : (v : ℕ) → 13 ≤ place → set out edge v ≡ joined f order ++ (v ∷ [])
      finish v h =
          let last : place ≡ 13 = omega (arith, w.passed) in
          let at : edge ≡ 13 * c = rw w.carriers starts in
          rw at
          (parts_last f c (λ s. size s ∙ sym w.carriers) order old out place v last
          (omega (arith, w.carriers, w.band, (sized mode).band)) w.so_far)
