-- What a band's roles give to the lists made from them.
-- Assumes nothing.
use Rattle.std.proofs.Common.{Option, Some, None, Result, Err}
use Prim.Native.Nat.{ℕ, ◌*◌, ◌<◌}
use mathlib.Core.Bool.{Bool, true, false}
use mathlib.Core.List.{List, [], ◌∷◌, ◌++◌}
use mathlib.Core.Path.{◌≡◌, refl, sym, ap, ◌∙◌}
use lib.Dec.{leb}
use lib.ListN.{length, take, drop}
use Rattle.lists.specs.Lists.{range, joined, chosen}
use Rattle.lists.specs.Fill.{joined_map, joined_same, part_of}
use Rattle.params.specs.declared.Mode.{Mode}
use Rattle.params.specs.Params.{carriers_per_segment, data_carriers_per_segment, total_carriers, kind_codes}
use Rattle.ofdm.specs.Band.{order, place_of, first_carrier}
use Rattle.ofdm.specs.Laws.{place_below, segment_of_place}
use Rattle.frame.specs.declared.CarrierRole.TheVariants.{EdgeCp}
use Rattle.params.specs.declared.Refusal.{Refusal}
use Rattle.frame.specs.Roles.{role_byte, is_data, segment_roles, band_roles, wide_segment, wide}
use Rattle.carrier_lists.specs.CarrierLists.{segment_data, data_list, continual_list}
use Rattle.frame.specs.OneRole.{segment_length, band_length, wide_size}
use Rattle.carrier_lists.specs.DataList.{data_length}
use Rattle.carrier_lists.specs.Continual.{continual_listed}
use Rattle.carrier_lists.specs.Operations.{ContinualListed, continual_list_code, continual_list_answer, continual_list_leaves}
use Rattle.frame.specs.Inner.{Accepted, RefusedLayout}
use Rattle.frame.specs.declared.FrameLayout.{FrameLayout}
use Rattle.carrier_lists.specs.Inner.{DataRoom, data_in, Continual}
use Rattle.frame.specs.Answers.{by_refusal}

module _ (mode : Mode) (phase : ℕ) (kinds : List ℕ) where
  abbrev roles : List ℕ
  roles = band_roles mode phase (wide kinds)

  abbrev of_segment_lem : ℕ → List ℕ
  of_segment_lem seg = segment_roles mode phase (wide_segment kinds seg)

  pub roles_length : length roles ≡ total_carriers mode
  roles_length = band_length mode phase (wide kinds) ∙ wide_size mode kinds

  -- a segment's part of the band
  segment_part : (seg : ℕ) → seg < 13 → take (carriers_per_segment mode) (drop (first_carrier mode (place_of seg)) roles) ≡ of_segment_lem seg
  unfolding band_roles
  segment_part seg h =
      let edge = role_byte EdgeCp ∷ [] in
      ap (λ (z : List ℕ). take (carriers_per_segment mode) (drop (first_carrier mode (place_of seg)) (z ++ edge)))
      (joined_map (segment_roles mode phase) (wide_segment kinds) order)
      ∙ (part_of of_segment_lem (carriers_per_segment mode) (λ s. segment_length mode phase (wide_segment kinds s))
      order edge (place_of seg) (place_below seg h)
      ∙ ap of_segment_lem (segment_of_place seg h))

  pub same_data : joined (data_in mode roles) (range 13) ≡ data_list mode phase kinds
  unfolding data_list segment_data
  same_data =
      joined_same (data_in mode roles) (segment_data mode phase kinds) 13
      (λ seg h. ap (chosen is_data (first_carrier mode (place_of seg))) (segment_part seg h))

  module _ (band : List ℕ) (e : band ≡ roles) where
    pub data_room : (out : List ℕ) → phase < 4 → length out ≡ 13 * data_carriers_per_segment mode → DataRoom mode band out
    data_room out h l =
        record {
          band = ap length e ∙ roles_length;
          fits =
              ap (λ (z : List ℕ). length (joined (data_in mode z) (range 13))) e
              ∙ (ap length same_data ∙ (data_length mode phase kinds h ∙ sym l));
        }

    pub data_stored : (out' : List ℕ) → out' ≡ joined (data_in mode band) (range 13) → out' ≡ data_list mode phase kinds
    data_stored out' w = w ∙ (ap (λ (z : List ℕ). joined (data_in mode z) (range 13)) e ∙ same_data)

-- the continual list of a layout that was refused, or accepted
module _ (kinds out : List ℕ) where
  pub continual_refused : (number : Option Mode) (refusal : Refusal) → RefusedLayout number kinds refusal
      → ContinualListed number kinds out (Err refusal) out
  unfolding continual_list_code continual_list_answer continual_list_leaves
  continual_refused =
      by_refusal kinds (λ n r. ContinualListed n kinds out (Err r) out) (continual_listed None kinds out _ _ refl refl)
      (λ k g. continual_listed (Some k) kinds out _ _ (rw g) (rw g))

  pub continual_answered : {number : Option Mode} {layout : FrameLayout} → Accepted number kinds layout → (r : Result ℕ Refusal) (out' : List ℕ)
      → Continual (band_roles layout.mode 0 (wide (kind_codes layout.kinds))) out r out' → ContinualListed number kinds out r out'
  unfolding continual_list continual_list_code continual_list_answer continual_list_leaves
  continual_answered {number} {layout} a r out' w = by (leb (length (continual_list layout.mode kinds)) (length out)) refl
    where
      by : (b : Bool) → leb (length (continual_list layout.mode kinds)) (length out) ≡ b → ContinualListed number kinds out r out'
      by true e =
          continual_listed number kinds out r out'
          (w.answer ∙ (rw (a.same, a.known, a.good, e))) (w.leaves ∙ (rw (a.same, a.known, a.good, e)))
      by false e =
          continual_listed number kinds out r out'
          (w.answer ∙ (rw (a.same, a.known, a.good, e))) (w.leaves ∙ (rw (a.same, a.known, a.good, e)))
