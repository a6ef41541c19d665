-- The role of one carrier (document 02, ask 3): what refuses the call, what it answers for every input, and what each case of the answer gives.
-- Definitions only.
use Rattle.params.specs.declared.Refusal.{Refusal}
use Rattle.params.specs.declared.Refusal.TheVariants.{BadMode}
use Rattle.frame.specs.declared.CarrierRole.{CarrierRole}
use Rattle.params.specs.declared.Mode.{Mode}
use Rattle.std.specs.Prelude.{ℕ, List, ◌≡◌, ltb, Option, Some, None, Result, Err}
use Rattle.lists.specs.Refusals.{unless}
use Rattle.params.specs.Params.{total_carriers, code_of, answered, given}
use Rattle.frame.specs.Roles.{role_byte, role_at, wide}
use Rattle.frame.specs.Operations.{symbol_tests}

-- as for the role map, with 4 for k in the place of 7: 1; 2; 3; 4 for k at or above k_total
abbrev pub role_code : Option Mode → ℕ → List ℕ → ℕ → ℕ
role_code mode phase kinds k = symbol_tests (λ m. unless (ltb k (total_carriers m)) 4 0) mode phase kinds

-- the role of carrier k of the wide band, or the refusal
unfoldable pub role_answer : Option Mode → ℕ → List ℕ → ℕ → Result CarrierRole Refusal
role_answer None phase kinds k = Err BadMode
role_answer (Some m) phase kinds k = answered (role_code (Some m) phase kinds k) (role_at m phase (wide kinds) k)

-- the role byte that an answer gives, or what was lent where it has none
abbrev pub role_given : Result CarrierRole Refusal → ℕ → ℕ
role_given = given role_byte

pub record RoleTold (mode : Option Mode) (phase : ℕ) (kinds : List ℕ) (k : ℕ) (r : Result CarrierRole Refusal) : Type 0 where
  pub number : code_of r ≡ role_code mode phase kinds k
  pub answer : r ≡ role_answer mode phase kinds k
