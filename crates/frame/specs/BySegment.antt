-- The carriers whose role byte passes a test that the edge's does not: those of each segment, from the lowest place upward.
-- Assumes nothing.
use Rattle.std.specs.Prelude.{ℕ, ◌+◌, ◌*◌, Bool, false, cond, List, [], ◌∷◌, ◌++◌, ◌≡◌, get_or, length}
use Rattle.std.proofs.Common.{append-nil, sym, ap, ◌∙◌, zero-mul, arith}
use Rattle.lists.specs.Lists.{joined, chosen}
use Rattle.lists.specs.Select.{chosen_append, chosen_joined}
use Rattle.params.specs.declared.Mode.{Mode}
use Rattle.params.specs.Params.{carriers_per_segment}
use Rattle.ofdm.specs.Band.{order, place_of}
use Rattle.ofdm.specs.Laws.{place_of_segment}
use Rattle.frame.specs.declared.CarrierRole.TheVariants.{EdgeCp}
use Rattle.frame.specs.Roles.{role_byte, segment_roles, band_roles, wide_segment, wide}
use Rattle.frame.specs.OneRole.{segment_length}

pub by_segment : (t : ℕ → Bool) → t (role_byte EdgeCp) ≡ false → (mode : Mode) (phase : ℕ) (kinds : List ℕ)
    → chosen t 0 (band_roles mode phase (wide kinds))
    ≡ joined (λ seg. chosen t (place_of seg * carriers_per_segment mode) (segment_roles mode phase (wide_segment kinds seg))) order
unfolding band_roles
by_segment t edge mode phase kinds =
    let roles = joined (segment_roles mode phase) (wide kinds) in
    chosen_append t 0 roles (role_byte EdgeCp ∷ [])
    ∙ (ap (λ (b : Bool). chosen t 0 roles ++ cond b ((0 + length roles) ∷ []) []) edge
    ∙ (append-nil (chosen t 0 roles)
    ∙ (ap (λ (n : ℕ). chosen t n roles) (sym (zero-mul (carriers_per_segment mode)))
    ∙ chosen_joined t (λ seg. segment_roles mode phase (wide_segment kinds seg)) (carriers_per_segment mode) place_of order 0
    (λ i l. segment_length mode phase (wide_segment kinds (get_or order i 0))) (λ i l. place_of_segment i l ∙ omega arith))))
