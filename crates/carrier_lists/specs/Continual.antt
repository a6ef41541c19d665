-- The continual list's four groups hold exactly the carriers of TMCC, AC, CP and the edge, each ascending, at any phase; and the number
-- of its answer is the operation's code.
-- Assumes nothing.
use Rattle.std.specs.Prelude.{ℕ, ◌*◌, ◌-◌, true, false, cond, ◌||◌, List, [], ◌∷◌, ◌++◌, ◌≡◌, refl, eqb, length, Option, Some, None, Result}
use Rattle.std.proofs.Common.{sym, ap, ◌∙◌, arith, add-one, eq-eqb, ne_eqb, lit<, lit≤}
use Rattle.lists.specs.Refusals.{unless_most}
use Rattle.lists.specs.Lists.{range, select, chosen}
use Rattle.lists.specs.Select.{select_append, select_none, Ascending, select_ascending}
use Rattle.lists.specs.Truth.{same, same_true}
use Rattle.params.specs.declared.Mode.{Mode}
use Rattle.params.specs.declared.Refusal.{Refusal}
use Rattle.params.specs.Params.{carriers_per_segment, total_carriers, code_of}
use Rattle.params.specs.Laws.{sized, answered_code}
use Rattle.frame.specs.declared.AcKind.TheVariants.{Ac1, Ac2}
use Rattle.frame.specs.declared.CarrierRole.{CarrierRole}
use Rattle.frame.specs.declared.CarrierRole.TheVariants.{Cp, Tmcc, Ac, EdgeCp}
use Rattle.frame.specs.Roles.{OfdmSegment, role_byte, band_roles, edge_of, role_at, wide, is_tmcc, is_ac, is_cp_byte}
use Rattle.carrier_lists.specs.CarrierLists.{continual_list}
use Rattle.carrier_lists.specs.Operations.{
  continual_list_code,
  continual_list_answer,
  continual_list_leaves,
  ContinualListed,
}
use Rattle.frame.specs.Rules.{place_has, band_size, has_role, carriers_of}
use Rattle.frame.specs.OneRole.{every_role_lem, band_length, chosen_carriers, has_one, role_carriers, wide_rows, wide_size}

-- the carriers of role AC1 or AC2, ascending
abbrev pub ac_carriers : Mode → ℕ → List OfdmSegment → List ℕ
ac_carriers mode phase segments =
    select (λ k. has_role mode phase segments k (Ac Ac1) || has_role mode phase segments k (Ac Ac2)) (range (band_size mode segments))

ac_byte : (role : CarrierRole)
    → is_ac (role_byte role) ≡ (eqb (role_byte role) (role_byte (Ac Ac1)) || eqb (role_byte role) (role_byte (Ac Ac2)))
ac_byte role =
    same_true _ _
    (every_role_lem (λ role. same (is_ac (role_byte role)) (eqb (role_byte role) (role_byte (Ac Ac1)) || eqb (role_byte role) (role_byte (Ac Ac2)))) refl role)

-- the edge is one carrier, above the last segment
edge_one : (mode : Mode) (phase : ℕ) (segments : List OfdmSegment)
    → carriers_of mode phase segments EdgeCp ≡ edge_of mode segments ∷ []
unfolding has_role place_has
edge_one mode phase segments = rw add-one (only (edge_of mode segments))
  where
    only : (n : ℕ) → select (λ k. cond (eqb k n) true false) (range n ++ (n ∷ [])) ≡ n ∷ []
    only n =
        select_append (λ k. cond (eqb k n) true false) (range n) (n ∷ [])
        ∙ rw (select_none (λ k. cond (eqb k n) true false) n (λ k l. rw (ne_eqb k n (λ e. omega arith))), eq-eqb n n refl)

module _ (mode : Mode) (phase : ℕ) (kinds : List ℕ) where
  -- the TMCC group holds exactly the carriers of role TMCC, at any phase
  pub tmcc_exactly : chosen is_tmcc 0 (band_roles mode 0 (wide kinds)) ≡ carriers_of mode phase (wide kinds) Tmcc
  unfolding has_role place_has
  tmcc_exactly = role_carriers mode 0 (wide kinds) (wide_rows kinds) (lit< tt) Tmcc

  -- the AC group, exactly the carriers of role AC1 or AC2
  pub ac_exactly : chosen is_ac 0 (band_roles mode 0 (wide kinds)) ≡ ac_carriers mode phase (wide kinds)
  unfolding has_role place_has
  ac_exactly =
      chosen_carriers mode 0 (wide kinds) is_ac (λ k. has_role mode 0 (wide kinds) k (Ac Ac1) || has_role mode 0 (wide kinds) k (Ac Ac2)) (λ k h.
      rw (
        has_one mode 0 (wide kinds) (wide_rows kinds) (lit< tt) k h (Ac Ac1),
        has_one mode 0 (wide kinds) (wide_rows kinds) (lit< tt) k h (Ac Ac2),
      )
      (ac_byte (role_at mode 0 (wide kinds) k)))

  -- the CP group, exactly the carriers of role CP
  pub cp_exactly : chosen is_cp_byte 0 (band_roles mode 0 (wide kinds)) ≡ carriers_of mode phase (wide kinds) Cp
  unfolding has_role place_has
  cp_exactly = role_carriers mode 0 (wide kinds) (wide_rows kinds) (lit< tt) Cp

  -- and the last entry, exactly the edge
  pub edge_exactly : (total_carriers mode - 1) ∷ [] ≡ carriers_of mode phase (wide kinds) EdgeCp
  edge_exactly =
      let e : total_carriers mode - 1 ≡ 13 * carriers_per_segment mode = omega (arith, (sized mode).band) in
      ap (λ (n : ℕ). n ∷ []) e ∙ sym (edge_one mode phase (wide kinds))

  -- the continual list is the four groups, at any phase
  pub continual_groups : continual_list mode kinds
      ≡ carriers_of mode phase (wide kinds) Tmcc
      ++ (ac_carriers mode phase (wide kinds)
      ++ (carriers_of mode phase (wide kinds) Cp
      ++ carriers_of mode phase (wide kinds) EdgeCp))
  unfolding continual_list
  continual_groups =
      rw (band_length mode 0 (wide kinds) ∙ wide_size mode kinds, tmcc_exactly, ac_exactly, cp_exactly, edge_exactly)

-- the carriers of any role ascend
pub carriers_ascending : (mode : Mode) (phase : ℕ) (segments : List OfdmSegment) (r : CarrierRole) → Ascending (carriers_of mode phase segments r)
carriers_ascending mode phase segments r = select_ascending (λ k. has_role mode phase segments k r) (band_size mode segments)

-- and so do those of AC1 and AC2 together
pub ac_ascending : (mode : Mode) (phase : ℕ) (segments : List OfdmSegment) → Ascending (ac_carriers mode phase segments)
ac_ascending mode phase segments =
    select_ascending (λ k. has_role mode phase segments k (Ac Ac1) || has_role mode phase segments k (Ac Ac2)) (band_size mode segments)

-- the number of an answer is the operation's code
pub continual_number_lem : (mode : Option Mode) (kinds : List ℕ) (n : ℕ)
    → code_of (continual_list_answer mode kinds n) ≡ continual_list_code mode kinds n
unfolding continual_list_answer continual_list_code
continual_number_lem None kinds n = refl
continual_number_lem (Some m) kinds n =
    answered_code (continual_list_code (Some m) kinds n) _ (unless_most _ 2 _ 11 (lit≤ tt) (unless_most _ 7 0 11 (lit≤ tt) (lit≤ tt)))

pub continual_listed : (mode : Option Mode) (kinds out : List ℕ) (r : Result ℕ Refusal) (out' : List ℕ)
    → r ≡ continual_list_answer mode kinds (length out) → out' ≡ continual_list_leaves mode kinds out → ContinualListed mode kinds out r out'
continual_listed mode kinds out r out' a l =
    record { number = ap code_of a ∙ continual_number_lem mode kinds (length out); answer = a; leaves = l }
