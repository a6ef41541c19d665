-- What a user may rely on: for every input that the role map accepts, and every k below k_total, the answer is a role, and its byte is byte k of
-- what the role map leaves.
-- Assumes nothing.
use Rattle.params.specs.declared.Refusal.{Refusal}
use Rattle.std.specs.Prelude.{ℕ, ◌<◌, List, ◌≡◌, refl, ltb, get_or, length, Option, Some, None, Result, Ok}
use Rattle.std.proofs.Common.{sym, ◌∙◌, arith, lit<, lit≤}
use Rattle.std.proofs.Math.Path.{ap}
use borrow.Author.Tests.{lt-ltb, eq-eqb}
use Rattle.lists.specs.Refusals.{passed, unless_most}
use Rattle.params.specs.declared.Mode.{Mode}
use Rattle.params.specs.Params.{total_carriers, code_of}
use Rattle.params.specs.Laws.{answered_code}
use Rattle.frame.specs.declared.CarrierRole.{CarrierRole}
use Rattle.frame.specs.Answers.{tests_most}
use Rattle.frame.specs.Roles.{band_roles, role_at, wide}
use Rattle.frame.specs.Operations.{are_kinds, layout_mode, symbol_code, symbol_leaves, RoleMap}
use Rattle.frame.specs.Rules.{band_size}
use Rattle.frame.specs.OneRole.{band_length, wide_size, map_says}
use Rattle.carrier_role.specs.CarrierRole.{role_code, role_answer, role_given, RoleTold}

-- the answer's number is the number that refuses the call, and 0 where nothing does
pub role_number_lem : (mode : Option Mode) (phase : ℕ) (kinds : List ℕ) (k : ℕ) → code_of (role_answer mode phase kinds k) ≡ role_code mode phase kinds k
unfolding role_answer
role_number_lem None phase kinds k = refl
role_number_lem (Some m) phase kinds k =
    answered_code (role_code (Some m) phase kinds k) _
    (tests_most _ (λ j. unless_most (ltb k (total_carriers j)) 4 0 11 (lit≤ tt) (lit≤ tt)) (Some m) phase kinds)

-- ---- the role map: `left` is what it leaves, r the answer for carrier k
pub record ByteOfMap (left : List ℕ) (k : ℕ) (r : Result CarrierRole Refusal) : Type 0 where
  pub accepted : code_of r ≡ 0
  pub inside : k < length left
  pub byte : (lent : ℕ) → role_given r lent ≡ get_or left k 0

module _ {phase : ℕ} {kinds out left : List ℕ} where
  roles_left : (m : Mode) → RoleMap (Some m) phase kinds out 0 left → left ≡ band_roles m phase (wide kinds)
  unfolding symbol_leaves
  roles_left m map = map.leaves ∙ rw (eq-eqb _ 0 (sym map.code))

  module _ {k : ℕ} {r : Result CarrierRole Refusal} where
    role_answered : (m : Mode) → RoleMap (Some m) phase kinds out 0 left → k < total_carriers m → RoleTold (Some m) phase kinds k r
        → r ≡ Ok (role_at m phase (wide kinds) k)
    unfolding symbol_code role_answer
    role_answered m map h told =
        let kinds_passed = passed (are_kinds kinds) 2 _ (lit< tt) (sym map.code) in
        let phase_passed = passed (ltb phase 4) 3 _ (lit< tt) kinds_passed.rest in
        told.answer ∙ rw (kinds_passed.first, phase_passed.first, lt-ltb k (total_carriers m) h)

    -- document 02's words: it equals byte k of the role map for every accepted input
    pub byte_of_map : (mode : Option Mode) → RoleMap mode phase kinds out 0 left → k < total_carriers (layout_mode mode)
        → RoleTold mode phase kinds k r → ByteOfMap left k r
    unfolding symbol_code layout_mode
    byte_of_map None map h told = absurd (omega (arith, map.code))
    byte_of_map (Some m) map h told =
        let role = role_answered m map h told in
        let in_map : k < band_size m (wide kinds) = rw (wide_size m kinds) h in
        record {
          accepted = ap code_of role;
          inside = rw (roles_left m map, band_length m phase (wide kinds)) in_map;
          byte = λ lent. ap (λ z. role_given z lent) role ∙ rw (roles_left m map) (sym (map_says m phase (wide kinds) k in_map));
        }
