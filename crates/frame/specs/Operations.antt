-- What an operation on a layout answers and what it leaves in its lent buffer, for every input. A mode comes as a number from outside,
-- so the first case of each definition is the number that is no mode.
-- Definitions only.
use Rattle.std.specs.Prelude.{ℕ, Bool, cond, ◌&&◌, List, ◌≡◌, eqb, leb, ltb, length, Option, Some, None}
use Rattle.lists.specs.Refusals.{unless}
use Rattle.lists.specs.Tests.{all_in}
use Rattle.params.specs.declared.Mode.{Mode}
use Rattle.params.specs.declared.Mode.TheVariants.{M1}
use Rattle.params.specs.Params.{total_carriers}
use Rattle.frame.specs.Roles.{band_roles, wide}

-- thirteen kinds of 0 or 1
abbrev pub are_kinds : List ℕ → Bool
are_kinds kinds = eqb (length kinds) 13 && all_in (λ k. leb k 1) kinds

-- the mode of a layout; a number that is no mode's has none, and mode 1 stands in its place
unfoldable pub layout_mode : Option Mode → Mode
layout_mode None = M1
layout_mode (Some m) = m

-- an operation on a mode, a phase and kinds: 1; 2; 3; and then what its last test says in the mode
abbrev pub symbol_tests : (Mode → ℕ) → Option Mode → ℕ → List ℕ → ℕ
symbol_tests last None phase kinds = 1
symbol_tests last (Some m) phase kinds = unless (are_kinds kinds) 2 (unless (ltb phase 4) 3 (last m))

-- where it has an output: 7 unless that has as many entries as the mode asks
unfoldable pub symbol_code : (Mode → ℕ) → Option Mode → ℕ → List ℕ → ℕ → ℕ
symbol_code size mode phase kinds n = symbol_tests (λ m. unless (eqb n (size m)) 7 0) mode phase kinds

-- its output: the list of the mode, or as it was where the call is refused
unfoldable pub symbol_leaves : (Mode → ℕ) → (Mode → List ℕ) → Option Mode → ℕ → List ℕ → List ℕ → List ℕ
symbol_leaves size list None phase kinds out = out
symbol_leaves size list (Some m) phase kinds out = cond (eqb (symbol_code size (Some m) phase kinds (length out)) 0) (list m) out

pub record SymbolAnswer (size : Mode → ℕ) (list : Mode → List ℕ) (mode : Option Mode) (phase : ℕ) (kinds out : List ℕ) (r : ℕ) (out' : List ℕ) : Type 0 where
  pub code : r ≡ symbol_code size mode phase kinds (length out)
  pub leaves : out' ≡ symbol_leaves size list mode phase kinds out

-- the role map: k_total bytes, the roles of the wide band
abbrev pub RoleMap : Option Mode → ℕ → List ℕ → List ℕ → ℕ → List ℕ → Type 0
RoleMap mode phase kinds out r out' = SymbolAnswer total_carriers (λ m. band_roles m phase (wide kinds)) mode phase kinds out r out'
