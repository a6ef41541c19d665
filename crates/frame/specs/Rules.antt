-- Each role's own rule, which looks at no other role but for data, and the carriers of a band that have a role. `OneRole` proves that the
-- rules never meet and leave no carrier out.
-- Definitions only.
use Rattle.std.specs.Prelude.{ℕ, ◌+◌, Bool, false, cond, not, ◌||◌, List, [], ◌∷◌, eqb}
use Rattle.lists.specs.Lists.{range, select}
use Rattle.lists.specs.Tests.{memb}
use Rattle.params.specs.declared.Mode.{Mode}
use Rattle.tables.specs.Places.{tmcc_of, ac1_of, ac2_of, is_sp, is_cp}
use Rattle.ofdm.specs.Band.{band_place, segment_place}
use Rattle.frame.specs.declared.AcKind.TheVariants.{Ac1, Ac2}
use Rattle.frame.specs.declared.CarrierRole.{CarrierRole}
use Rattle.frame.specs.declared.CarrierRole.TheVariants.{Data, Sp, Cp, Tmcc, Ac, EdgeCp}
use Rattle.frame.specs.Roles.{OfdmSegment, role_byte, segment_in, edge_of}

-- whether place p of a segment has a role; data is what no other rule claims
unfoldable pub place_has : Mode → OfdmSegment → ℕ → ℕ → CarrierRole → Bool
place_has mode s phase p Data =
    not (is_sp s.kind phase p || (is_cp s.kind p || (memb p (tmcc_of mode s.kind s.row)
    || (memb p (ac1_of mode s.kind s.row) || memb p (ac2_of mode s.kind s.row)))))
place_has mode s phase p Sp = is_sp s.kind phase p
place_has mode s phase p Cp = is_cp s.kind p
place_has mode s phase p Tmcc = memb p (tmcc_of mode s.kind s.row)
place_has mode s phase p (Ac Ac1) = memb p (ac1_of mode s.kind s.row)
place_has mode s phase p (Ac Ac2) = memb p (ac2_of mode s.kind s.row)
place_has mode s phase p EdgeCp = false

-- the carriers of a band of segments, its edge included
abbrev pub band_size : Mode → List OfdmSegment → ℕ
band_size mode segments = edge_of mode segments + 1

-- whether carrier k of a band has a role
unfoldable pub has_role : Mode → ℕ → List OfdmSegment → ℕ → CarrierRole → Bool
has_role mode phase segments k r =
    cond (eqb k (edge_of mode segments)) (eqb (role_byte r) (role_byte EdgeCp))
    (place_has mode (segment_in segments (band_place mode k)) phase (segment_place mode k) r)

-- the carriers of a band that have a role, ascending
abbrev pub carriers_of : Mode → ℕ → List OfdmSegment → CarrierRole → List ℕ
carriers_of mode phase segments r = select (λ k. has_role mode phase segments k r) (range (band_size mode segments))

abbrev pub every_role : List CarrierRole
every_role = Data ∷ Sp ∷ Cp ∷ Tmcc ∷ Ac Ac1 ∷ Ac Ac2 ∷ EdgeCp ∷ []
