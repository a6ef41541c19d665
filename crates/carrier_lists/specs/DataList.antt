-- The data list holds exactly the carriers of role data, segment by segment, each segment's ascending and as many as its mode says.
-- Assumes nothing.
use Rattle.std.specs.Prelude.{ℕ, ◌+◌, ◌*◌, ◌<◌, ◌≡◌, eqb}
use mathlib.Core.List.Perm
use mathlib.Core.List.{List, Perm}
use Rattle.std.proofs.Math.Path.{refl, ap}
use Rattle.std.proofs.Common.{sym, ◌∙◌, eqb-true}
use Rattle.std.proofs.Math.ListN.{length}
use Rattle.lists.specs.Lists.{range, joined, chosen}
use Rattle.lists.specs.Tests.{all_below_at, memb}
use Rattle.lists.specs.Select.{get_or_up_to, length_joined, joined_perm, length_chosen, count_same, Ascending, chosen_ascending, passes, sorted_perm}
use Rattle.lists.specs.Truth.{same, same_true, always5_at}
use Rattle.params.specs.declared.Mode.{Mode}
use Rattle.params.specs.Params.{carriers_per_segment, data_carriers_per_segment}
use Rattle.tables.specs.Places.{tmcc_of, ac1_of, ac2_of, is_sp, is_cp, claims, one}
use Rattle.tables.specs.Rule.{full}
use Rattle.ofdm.specs.Band.{order, place_of, first_carrier}
use Rattle.frame.specs.declared.CarrierRole.TheVariants.{Data}
use Rattle.frame.specs.Roles.{OfdmSegment, role_byte, first_claim, place_role, segment_roles, band_roles, wide_segment, wide, is_data}
use Rattle.carrier_lists.specs.CarrierLists.{segment_data, data_list}
use Rattle.frame.specs.Rules.{carriers_of}
use Rattle.frame.specs.OneRole.{role_carriers, wide_rows}
use Rattle.frame.specs.BySegment.{by_segment}

-- a place is data where no other role claims it
data_place : (mode : Mode) (s : OfdmSegment) (phase p : ℕ)
    → is_data (role_byte (place_role mode s phase p)) ≡ eqb (claims mode s.kind s.row phase p) 0
unfolding place_role claims
data_place mode s phase p =
    same_true _ _
    (always5_at (λ sp cp t a b. same (is_data (role_byte (first_claim sp cp t a b))) (eqb (one sp + (one cp + (one t + (one a + one b)))) 0)) refl
    (is_sp s.kind phase p) (is_cp s.kind p) (memb p (tmcc_of mode s.kind s.row))
    (memb p (ac1_of mode s.kind s.row)) (memb p (ac2_of mode s.kind s.row)))

-- each segment has its full count nc of data carriers, in every kind and phase
pub segment_full : (mode : Mode) (phase : ℕ) (s : OfdmSegment) → s.row < 13 → phase < 4 → (start : ℕ)
    → length (chosen is_data start (segment_roles mode phase s)) ≡ data_carriers_per_segment mode
unfolding segment_roles
segment_full mode phase s in_table in_cycle start =
    length_chosen is_data (λ p. role_byte (place_role mode s phase p)) start (carriers_per_segment mode)
    ∙ (count_same (λ p. is_data (role_byte (place_role mode s phase p))) (λ p. eqb (claims mode s.kind s.row phase p) 0)
    (carriers_per_segment mode) (data_place mode s phase)
    ∙ full mode s.kind s.row phase in_table in_cycle)

-- the data carriers of a segment ascend
pub data_ascending : (mode : Mode) (phase : ℕ) (kinds : List ℕ) (seg : ℕ) → Ascending (segment_data mode phase kinds seg)
unfolding segment_data
data_ascending mode phase kinds seg =
    chosen_ascending is_data (first_carrier mode (place_of seg)) (segment_roles mode phase (wide_segment kinds seg))

-- the thirteen segments by place are the thirteen by number, rearranged
order_perm : Perm order (range 13)
order_perm =
    sorted_perm (λ r k. eqb r k) order 13 (λ k h.
    eqb-true _ _ (all_below_at (λ k. eqb (passes (λ r. eqb r k) order) 1) 13 refl k h))

module _ (mode : Mode) (phase : ℕ) (kinds : List ℕ) where
  -- the band's data carriers, segment by segment from the lowest place upward
  parts_chosen : chosen is_data 0 (band_roles mode phase (wide kinds)) ≡ joined (segment_data mode phase kinds) order
  unfolding segment_data
  parts_chosen = by_segment is_data refl mode phase kinds

  module _ (in_cycle : phase < 4) where
    -- the data list has thirteen times nc carriers
    pub data_length : length (data_list mode phase kinds) ≡ 13 * data_carriers_per_segment mode
    unfolding data_list segment_data
    data_length =
        length_joined (segment_data mode phase kinds) (data_carriers_per_segment mode) 0 (range 13) (λ i l.
        ap (λ (seg : ℕ). length (segment_data mode phase kinds seg)) (get_or_up_to (λ k. k) 13 i 0 l)
        ∙ segment_full mode phase (wide_segment kinds i) l in_cycle (first_carrier mode (place_of i)))

    -- the data list holds exactly the carriers of role data
    pub data_exactly : Perm (data_list mode phase kinds) (carriers_of mode phase (wide kinds) Data)
    unfolding data_list
    data_exactly =
        rw (sym (role_carriers mode phase (wide kinds) (wide_rows kinds) in_cycle Data) ∙ parts_chosen)
        (joined_perm (segment_data mode phase kinds) (Perm.symm order_perm))
