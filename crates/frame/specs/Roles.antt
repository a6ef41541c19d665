-- The role of each carrier (ARIB STD-B31, Figures 3-29 and 3-30, Tables 3-14 and 3-15), of a segment and of a band.
-- Definitions only.
use Rattle.std.specs.Prelude.{ℕ, Bool, cond, ◌&&◌, List, [], ◌∷◌, ◌++◌, map, eqb, leb, length, get_or}
use Rattle.lists.specs.Lists.{up_to, joined}
use Rattle.lists.specs.Tests.{memb}
use Rattle.params.specs.declared.Mode.{Mode}
use Rattle.params.specs.declared.SegmentKind.{SegmentKind}
use Rattle.params.specs.declared.SegmentKind.TheVariants.{Coherent}
use Rattle.params.specs.Params.{carriers_per_segment, kind_from}
use Rattle.tables.specs.Places.{tmcc_of, ac1_of, ac2_of, is_sp, is_cp}
use Rattle.ofdm.specs.Band.{order, first_carrier, band_place, segment_place}
use Rattle.frame.specs.declared.AcKind.TheVariants.{Ac1, Ac2}
use Rattle.frame.specs.declared.CarrierRole.{CarrierRole}
use Rattle.frame.specs.declared.CarrierRole.TheVariants.{Data, Sp, Cp, Tmcc, Ac, EdgeCp}

-- document 01's role bytes
abbrev pub role_byte : CarrierRole → ℕ
role_byte Data = 0
role_byte Sp = 1
role_byte Cp = 2
role_byte Tmcc = 3
role_byte (Ac Ac1) = 4
role_byte (Ac Ac2) = 5
role_byte EdgeCp = 6

-- an OFDM segment of a band: the row of the carrier tables that it uses, and its kind
pub record OfdmSegment : Type 0 where
  pub row : ℕ
  pub kind : SegmentKind

abbrev pub ofdm_segment : ℕ → SegmentKind → OfdmSegment
ofdm_segment row kind = record { row = row; kind = kind }

-- the role of a place, whose tests sp, cp, t, a and b say whether SP, CP, TMCC, AC1 and AC2 claim it: the first that does; the rest is data
abbrev pub first_claim : Bool → Bool → Bool → Bool → Bool → CarrierRole
first_claim sp cp t a b = cond sp Sp (cond cp Cp (cond t Tmcc (cond a (Ac Ac1) (cond b (Ac Ac2) Data))))

-- the role of place p of a segment
unfoldable pub place_role : Mode → OfdmSegment → ℕ → ℕ → CarrierRole
place_role mode s phase p =
    first_claim (is_sp s.kind phase p) (is_cp s.kind p) (memb p (tmcc_of mode s.kind s.row))
    (memb p (ac1_of mode s.kind s.row)) (memb p (ac2_of mode s.kind s.row))

-- the role bytes of a segment's carriers, lowest first
unfoldable pub segment_roles : Mode → ℕ → OfdmSegment → List ℕ
segment_roles mode phase s = up_to (λ p. role_byte (place_role mode s phase p)) (carriers_per_segment mode)

-- the role bytes of a band, its segments by place, lowest first, and then the edge
unfoldable pub band_roles : Mode → ℕ → List OfdmSegment → List ℕ
band_roles mode phase segments = joined (segment_roles mode phase) segments ++ (role_byte EdgeCp ∷ [])

-- the segment at a place of a band; no carrier of the band asks for a place above the last
abbrev pub segment_in : List OfdmSegment → ℕ → OfdmSegment
segment_in segments place = get_or segments place (record { row = 0; kind = Coherent })

-- the edge lies above the last segment
abbrev pub edge_of : Mode → List OfdmSegment → ℕ
edge_of mode segments = first_carrier mode (length segments)

-- the role of carrier k of a band
abbrev pub role_at : Mode → ℕ → List OfdmSegment → ℕ → CarrierRole
role_at mode phase segments k =
    cond (eqb k (edge_of mode segments)) EdgeCp (place_role mode (segment_in segments (band_place mode k)) phase (segment_place mode k))

-- segment seg of the wide band, whose kinds are given in segment-number order
abbrev pub wide_segment : List ℕ → ℕ → OfdmSegment
wide_segment kinds seg = ofdm_segment seg (kind_from (get_or kinds seg 0))

-- the wide band: thirteen segments in the standard's order
abbrev pub wide : List ℕ → List OfdmSegment
wide kinds = map (wide_segment kinds) order

-- tests on a role byte
abbrev pub between : ℕ → ℕ → ℕ → Bool
between low high r = leb low r && leb r high

abbrev pub is_data : ℕ → Bool
is_data = between (role_byte Data) (role_byte Data)

abbrev pub is_cp_byte : ℕ → Bool
is_cp_byte = between (role_byte Cp) (role_byte Cp)

abbrev pub is_tmcc : ℕ → Bool
is_tmcc = between (role_byte Tmcc) (role_byte Tmcc)

abbrev pub is_ac : ℕ → Bool
is_ac = between (role_byte (Ac Ac1)) (role_byte (Ac Ac2))
