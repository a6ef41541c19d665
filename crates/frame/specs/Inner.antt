-- What the inner functions write and take on the way to an operation's answer. No operation's contract cites these; the laws that lead
-- from them to `Roles` are in proofs/.
-- Definitions only.
use Rattle.std.specs.Prelude.{ℕ, ◌<◌, false, true, List, [], ◌∷◌, ◌≡◌, length, get_or, set, Option, Some, None, Result, Ok, Err}
use Rattle.params.specs.declared.Refusal.{Refusal}
use Rattle.params.specs.declared.Refusal.TheVariants.{BadMode, BadKinds}
use Rattle.params.specs.declared.Mode.{Mode}
use Rattle.params.specs.declared.SegmentKind.{SegmentKind}
use Rattle.params.specs.Params.{kind_codes}
use Rattle.tables.specs.Places.{is_sp, is_cp}
use Rattle.frame.specs.declared.FrameLayout.{FrameLayout}
use Rattle.frame.specs.declared.CarrierRole.{CarrierRole}
use Rattle.frame.specs.Roles.{role_byte, first_claim}
use Rattle.frame.specs.Operations.{are_kinds}

-- the role of a place as far as pilots decide it, and its byte
abbrev pub pilot_role : SegmentKind → ℕ → ℕ → CarrierRole
pilot_role kind phase p = first_claim (is_sp kind phase p) (is_cp kind p) false false false

abbrev pub pilot_byte : SegmentKind → ℕ → ℕ → ℕ
pilot_byte kind phase p = role_byte (pilot_role kind phase p)

-- out with role at each of the places
unfoldable pub marked : List ℕ → ℕ → List ℕ → List ℕ
marked [] role out = out
marked (p ∷ ps) role out = marked ps role (set out p role)

-- each place of the row lies within out
pub record Markable (row out : List ℕ) : Type 0 where
  pub within : (i : ℕ) → i < length row → get_or row i 0 < length out

-- kinds from outside: read, or refused
abbrev pub KindsTold : List ℕ → Result (List SegmentKind) Refusal → Type 0
KindsTold kinds (Ok read) = (are_kinds kinds ≡ true) × (kind_codes read ≡ kinds)
KindsTold kinds (Err refusal) = (are_kinds kinds ≡ false) × (refusal ≡ BadKinds)

-- a layout that was accepted
pub record Accepted (number : Option Mode) (kinds : List ℕ) (layout : FrameLayout) : Type 0 where
  pub known : number ≡ Some layout.mode
  pub good : are_kinds kinds ≡ true
  pub same : kind_codes layout.kinds ≡ kinds

-- a layout that was refused: its mode is bad, or its mode is good and its kinds are not
abbrev pub RefusedLayout : Option Mode → List ℕ → Refusal → Type 0
RefusedLayout None kinds refusal = refusal ≡ BadMode
RefusedLayout (Some m) kinds refusal = (are_kinds kinds ≡ false) × (refusal ≡ BadKinds)

abbrev pub LayoutTold : Option Mode → List ℕ → Result FrameLayout Refusal → Type 0
LayoutTold number kinds (Ok layout) = Accepted number kinds layout
LayoutTold number kinds (Err refusal) = RefusedLayout number kinds refusal
