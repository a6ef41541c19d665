-- What the tests on the way to a return make of the definition of `carrier_role`.
-- Assumes nothing.
use Rattle.params.specs.declared.Refusal.{Refusal}
use Rattle.std.proofs.Common.{Option, Result, Ok, Err}
use Prim.Native.Nat.{ℕ, ◌≤◌, ◌<◌}
use mathlib.Core.List.{List}
use mathlib.Core.Path.{◌≡◌, refl, ap, ◌∙◌}
use native.Mathlib.Omega.{arith}
use borrow.Author.Tests.{lt-ltb, le-ltb}
use Rattle.params.specs.declared.Mode.{Mode}
use Rattle.params.specs.Params.{total_carriers, code_of, kind_codes}
use Rattle.frame.specs.declared.CarrierRole.{CarrierRole}
use Rattle.frame.specs.declared.FrameLayout.{FrameLayout}
use Rattle.frame.specs.Roles.{role_at, wide}
use Rattle.frame.specs.Inner.{Accepted, RefusedLayout}
use Rattle.frame.specs.Answers.{by_refusal}
use Rattle.params.specs.declared.Refusal.TheVariants.{BadPhase, Outside}
use Rattle.carrier_role.specs.CarrierRole.{role_answer, RoleTold}
use Rattle.carrier_role.specs.Facts.{role_number_lem}

told : (number : Option Mode) (phase : ℕ) (kinds : List ℕ) (k : ℕ) (r : Result CarrierRole Refusal) → r ≡ role_answer number phase kinds k
    → RoleTold number phase kinds k r
told number phase kinds k r e = record { number = ap code_of e ∙ role_number_lem number phase kinds k; answer = e }

module _ (kinds : List ℕ) (phase k : ℕ) where
  pub refused_layout : (number : Option Mode) (refusal : Refusal) → RefusedLayout number kinds refusal → RoleTold number phase kinds k (Err refusal)
  unfolding role_answer
  refused_layout =
      by_refusal kinds (λ n r. RoleTold n phase kinds k (Err r)) (told _ _ _ _ _ refl) (λ m g. told _ _ _ _ _ (rw g))

  module _ {number : Option Mode} {layout : FrameLayout} (a : Accepted number kinds layout) where
    pub refused_phase : 3 < phase → RoleTold number phase kinds k (Err BadPhase)
    unfolding role_answer
    refused_phase h = told _ _ _ _ _ (rw (a.known, a.good, le-ltb phase 4 h))

    module _ (h : phase ≤ 3) where
      in_cycle : phase < 4
      in_cycle = omega arith

      pub refused_carrier : total_carriers layout.mode ≤ k → RoleTold number phase kinds k (Err Outside)
      unfolding role_answer
      refused_carrier l = told _ _ _ _ _ (rw (a.known, a.good, lt-ltb phase 4 in_cycle, le-ltb k (total_carriers layout.mode) l))

      pub answered : (r : CarrierRole) → k < total_carriers layout.mode → r ≡ role_at layout.mode phase (wide (kind_codes layout.kinds)) k
          → RoleTold number phase kinds k (Ok r)
      unfolding role_answer
      answered r l e =
          let same : r ≡ role_at layout.mode phase (wide kinds) k = rw a.same at e in
          told _ _ _ _ _ (rw (a.known, a.good, lt-ltb phase 4 in_cycle, lt-ltb k (total_carriers layout.mode) l) (ap Ok same))
