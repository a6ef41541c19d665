-- What the data list and the continual list answer and what they leave in the lent buffer, for every input.
-- Definitions only.
use Rattle.params.specs.declared.Mode.{Mode}
use Rattle.std.specs.Prelude.{ℕ, ◌*◌, cond, List, ◌≡◌, eqb, leb, length, Option, Some, None, Result, Err}
use Rattle.lists.specs.Refusals.{unless}
use Rattle.params.specs.declared.Refusal.{Refusal}
use Rattle.params.specs.declared.Refusal.TheVariants.{BadMode}
use Rattle.params.specs.Params.{data_carriers_per_segment, code_of, answered}
use Rattle.frame.specs.Operations.{are_kinds, SymbolAnswer}
use Rattle.carrier_lists.specs.CarrierLists.{data_list, continual_list, stored_first}

-- the data list: 13 × nc numbers
abbrev pub DataList : Option Mode → ℕ → List ℕ → List ℕ → ℕ → List ℕ → Type 0
DataList mode phase kinds out r out' =
    SymbolAnswer (λ m. 13 * data_carriers_per_segment m) (λ m. data_list m phase kinds) mode phase kinds out r out'

-- the continual list: 1; 2; 7 if the output is shorter than the count; what lies beyond keeps its contents
unfoldable pub continual_list_code : Option Mode → List ℕ → ℕ → ℕ
continual_list_code None kinds n = 1
continual_list_code (Some m) kinds n = unless (are_kinds kinds) 2 (unless (leb (length (continual_list m kinds)) n) 7 0)

-- the count is handed back
unfoldable pub continual_list_answer : Option Mode → List ℕ → ℕ → Result ℕ Refusal
continual_list_answer None kinds n = Err BadMode
continual_list_answer (Some m) kinds n = answered (continual_list_code (Some m) kinds n) (length (continual_list m kinds))

unfoldable pub continual_list_leaves : Option Mode → List ℕ → List ℕ → List ℕ
continual_list_leaves None kinds out = out
continual_list_leaves (Some m) kinds out =
    cond (eqb (continual_list_code (Some m) kinds (length out)) 0) (stored_first (continual_list m kinds) out) out

pub record ContinualListed (mode : Option Mode) (kinds out : List ℕ) (r : Result ℕ Refusal) (out' : List ℕ) : Type 0 where
  pub number : code_of r ≡ continual_list_code mode kinds (length out)
  pub answer : r ≡ continual_list_answer mode kinds (length out)
  pub leaves : out' ≡ continual_list_leaves mode kinds out
