-- Each carrier of a band has exactly one role, the one that the role map says: the rules of no two roles meet, and the carriers of the
-- seven roles together are the band's carriers.
-- Assumes nothing.
use Rattle.std.specs.Prelude.{ℕ, zero, suc, ◌+◌, ◌≤◌, ◌<◌, Bool, cond, not, ◌||◌, ◌≡◌, refl, eqb, leb, ltb}
use Rattle.std.proofs.Math.Bool.{true, false}
use mathlib.Core.List.{List, [], ◌∷◌, map, Perm}
use Rattle.std.proofs.Math.Path.{sym}
use Rattle.std.proofs.Common.{ap, subst, ◌∙◌, arith, le_of_suc-le-suc, not-suc-le-zero, eqb-true, ltb-true, le-leb, eq-eqb, ne_eqb, lit<}
use Rattle.std.proofs.Math.Decide.{dec_lt}
use Rattle.std.proofs.lemmas.Bool.{eqb-false, lt-leb}
use Rattle.std.proofs.Math.ListN.{length, get_or, length-append, get_or-append}
use Rattle.std.proofs.Math.Seq.{get_or_at}
use Rattle.lists.specs.Lists.{range, joined, select, chosen}
use Rattle.lists.specs.Tests.{memb, all_in, all_below, all_below_at, agree, both_left, both_right}
use Rattle.lists.specs.Select.{length_up_to, get_or_up_to, length_joined, get_or_joined, chosen_select, select_same, passes, passes_same, sorted_perm}
use Rattle.lists.specs.Truth.{same, same_true, always5, always5_at}
use Rattle.params.specs.declared.Mode.{Mode}
use Rattle.params.specs.declared.SegmentKind.TheVariants.{Coherent}
use Rattle.params.specs.Params.{carriers_per_segment, total_carriers}
use Rattle.params.specs.Laws.{sized}
use Rattle.tables.specs.Places.{tmcc_of, ac1_of, ac2_of, is_sp, is_cp, claims, one}
use Rattle.tables.specs.Rule.{apart}
use Rattle.ofdm.specs.Band.{order, segment_at, band_place, segment_place}
use Rattle.ofdm.specs.Laws.{in_band, in_segment, carrier_of_place}
use Rattle.frame.specs.declared.AcKind.TheVariants.{Ac1, Ac2}
use Rattle.frame.specs.declared.CarrierRole.{CarrierRole}
use Rattle.frame.specs.declared.CarrierRole.TheVariants.{Data, Sp, Cp, Tmcc, Ac, EdgeCp}
use Rattle.frame.specs.Roles.{OfdmSegment, role_byte, first_claim, place_role, segment_roles, band_roles, between}
use Rattle.frame.specs.Roles.{segment_in, edge_of, role_at, wide_segment, wide}
use Rattle.frame.specs.Rules.{place_has, band_size, has_role, carriers_of, every_role}

-- every segment uses a row of the tables
abbrev pub rows_below : List OfdmSegment → Type 0
rows_below [] = Unit {0}
rows_below (s ∷ rest) = (s.row < 13) × rows_below rest

row_below : (segments : List OfdmSegment) → rows_below segments → (place : ℕ) → place < length segments → (segment_in segments place).row < 13
row_below [] rows place h = absurd (not-suc-le-zero h)
row_below (s ∷ rest) rows zero h = rows.0
row_below (s ∷ rest) rows (suc place) h = row_below rest rows.1 place (le_of_suc-le-suc h)

rows_of : (kinds xs : List ℕ) → all_in (λ x. ltb x 13) xs ≡ true → rows_below (map (wide_segment kinds) xs)
rows_of kinds [] e = tt
rows_of kinds (x ∷ xs) e = (
  ltb-true x 13 (both_left (ltb x 13) (all_in (λ x. ltb x 13) xs) e),
  rows_of kinds xs (both_right (ltb x 13) (all_in (λ x. ltb x 13) xs) e),
)

-- the wide band is a band whose rows are all in the tables, and has k_total carriers
pub wide_rows : (kinds : List ℕ) → rows_below (wide kinds)
wide_rows kinds = rows_of kinds order refl

pub wide_size : (mode : Mode) (kinds : List ℕ) → band_size mode (wide kinds) ≡ total_carriers mode
wide_size mode kinds = sym (sized mode).band

-- the segment at a place of it is the one that the standard has there
pub segment_in_lem : (kinds : List ℕ) (place : ℕ) → place < 13 → segment_in (wide kinds) place ≡ wide_segment kinds (segment_at place)
segment_in_lem kinds place h = agree (segment_in (wide kinds)) (λ p. wide_segment kinds (segment_at p)) 13 refl place h

-- a role's byte is its place in the list of all roles
listed : (r : CarrierRole) → (role_byte r < 7) × (get_or every_role (role_byte r) Data ≡ r)
listed Data = (lit< tt, refl)
listed Sp = (lit< tt, refl)
listed Cp = (lit< tt, refl)
listed Tmcc = (lit< tt, refl)
listed (Ac Ac1) = (lit< tt, refl)
listed (Ac Ac2) = (lit< tt, refl)
listed EdgeCp = (lit< tt, refl)

-- a test that each of the list passes, each role passes
pub every_role_lem : (f : CarrierRole → Bool) → all_below (λ n. f (get_or every_role n Data)) 7 ≡ true → (r : CarrierRole) → f r ≡ true
every_role_lem f e r = rw (listed r).1 at (all_below_at (λ n. f (get_or every_role n Data)) 7 e (role_byte r) (listed r).0)

-- what each role's own rule says of a place, by the tests that `first_claim` asks
abbrev ruled : CarrierRole → Bool → Bool → Bool → Bool → Bool → Bool
ruled Data sp cp t a b = not (sp || (cp || (t || (a || b))))
ruled Sp sp cp t a b = sp
ruled Cp sp cp t a b = cp
ruled Tmcc sp cp t a b = t
ruled (Ac Ac1) sp cp t a b = a
ruled (Ac Ac2) sp cp t a b = b
ruled EdgeCp sp cp t a b = false

-- more than one role claims the place, or the rule of r says whether r is the first role that claims it
abbrev rule_test : CarrierRole → Bool → Bool → Bool → Bool → Bool → Bool
rule_test r sp cp t a b =
    cond (leb (one sp + (one cp + (one t + (one a + one b)))) 1)
    (same (ruled r sp cp t a b) (eqb (role_byte (first_claim sp cp t a b)) (role_byte r)))
    true

-- where at most one role claims a place, each rule says whether its role is the first that claims it
only_first : (r : CarrierRole) (sp cp t a b : Bool) → one sp + (one cp + (one t + (one a + one b))) ≤ 1
    → ruled r sp cp t a b ≡ eqb (role_byte (first_claim sp cp t a b)) (role_byte r)
only_first r sp cp t a b h =
    same_true _ _ (rw (le-leb _ _ h) at (always5_at (rule_test r) (every_role_lem (λ r. always5 (rule_test r)) refl r) sp cp t a b))

-- the rules at place p of a segment

place_ruled : (mode : Mode) (s : OfdmSegment) (phase p : ℕ) (r : CarrierRole)
    → place_has mode s phase p r
    ≡ ruled r (is_sp s.kind phase p) (is_cp s.kind p) (memb p (tmcc_of mode s.kind s.row))
    (memb p (ac1_of mode s.kind s.row)) (memb p (ac2_of mode s.kind s.row))
unfolding place_has
place_ruled mode s phase p Data = refl
place_ruled mode s phase p Sp = refl
place_ruled mode s phase p Cp = refl
place_ruled mode s phase p Tmcc = refl
place_ruled mode s phase p (Ac Ac1) = refl
place_ruled mode s phase p (Ac Ac2) = refl
place_ruled mode s phase p EdgeCp = refl

pub place_has_lem : (mode : Mode) (s : OfdmSegment) (phase p : ℕ) (r : CarrierRole) → s.row < 13 → phase < 4 → p < carriers_per_segment mode
    → place_has mode s phase p r ≡ eqb (role_byte (place_role mode s phase p)) (role_byte r)
unfolding place_role claims
place_has_lem mode s phase p r in_table in_cycle h =
    place_ruled mode s phase p r ∙ only_first r _ _ _ _ _ (apart mode s.kind s.row phase in_table in_cycle p h)

-- what the carrier k of a band is

pub segment_length : (mode : Mode) (phase : ℕ) (s : OfdmSegment) → length (segment_roles mode phase s) ≡ carriers_per_segment mode
unfolding segment_roles
segment_length mode phase s = length_up_to _ (carriers_per_segment mode)

segment_at_lem : (mode : Mode) (phase : ℕ) (s : OfdmSegment) (p : ℕ) → p < carriers_per_segment mode
    → get_or (segment_roles mode phase s) p 0 ≡ role_byte (place_role mode s phase p)
unfolding segment_roles
segment_at_lem mode phase s p h = get_or_up_to _ (carriers_per_segment mode) p 0 h

edge_byte : (r : CarrierRole) → eqb (role_byte r) (role_byte EdgeCp) ≡ eqb (role_byte EdgeCp) (role_byte r)
edge_byte r = same_true _ _ (every_role_lem (λ r. same (eqb (role_byte r) (role_byte EdgeCp)) (eqb (role_byte EdgeCp) (role_byte r))) refl r)

-- no two roles have one byte
once : (role : CarrierRole) → passes (λ r. eqb (role_byte role) (role_byte r)) every_role ≡ 1
once role = eqb-true _ _ (every_role_lem (λ role. eqb (passes (λ r. eqb (role_byte role) (role_byte r)) every_role) 1) refl role)

-- the test for one byte
pub between_one : (a n : ℕ) → between a a n ≡ eqb n a
between_one a n = by (dec_lt n a) (dec_lt a n)
  where
    by : Dec (n < a) → Dec (a < n) → between a a n ≡ eqb n a
    by (yes l) d = rw (lt-leb a n l, ne_eqb n a (λ e. omega arith))
    by (no g) (yes l) = rw (le-leb a n (omega arith), lt-leb n a l, ne_eqb n a (λ e. omega arith))
    by (no g) (no m) = let e : n ≡ a = omega arith in rw (e, le-leb a a (omega arith), eq-eqb a a refl)

module _ (mode : Mode) (phase : ℕ) (segments : List OfdmSegment) where
  each_length : (i : ℕ) → i < length segments → length (segment_roles mode phase (segment_in segments i)) ≡ carriers_per_segment mode
  each_length i l = segment_length mode phase (segment_in segments i)

  parts_length : length (joined (segment_roles mode phase) segments) ≡ edge_of mode segments
  parts_length =
      length_joined (segment_roles mode phase) (carriers_per_segment mode) (record { row = 0; kind = Coherent }) segments each_length

  -- the map has a byte for each carrier of the band
  pub band_length : length (band_roles mode phase segments) ≡ band_size mode segments
  unfolding band_roles
  band_length = length-append (joined (segment_roles mode phase) segments) (role_byte EdgeCp ∷ []) ∙ rw parts_length

  below_edge : (k : ℕ) → eqb k (edge_of mode segments) ≡ false → k < band_size mode segments → k < edge_of mode segments
  below_edge k e h = omega (arith, eqb-false k (edge_of mode segments) e)

  map_at : (k : ℕ) (b : Bool) → eqb k (edge_of mode segments) ≡ b → k < band_size mode segments
      → get_or (band_roles mode phase segments) k 0 ≡ role_byte (role_at mode phase segments k)
  unfolding band_roles
  map_at k true e h =
      let at_edge : length (joined (segment_roles mode phase) segments) ≡ k = parts_length ∙ sym (eqb-true k _ e) in
      get_or_at (joined (segment_roles mode phase) segments) (role_byte EdgeCp) [] 0 k at_edge ∙ rw e
  map_at k false e h =
      let below : k < edge_of mode segments = below_edge k e h in
      rw e
      (get_or-append (joined (segment_roles mode phase) segments) (role_byte EdgeCp ∷ []) 0 k (rw parts_length below)
      ∙ (ap (λ (n : ℕ). get_or (joined (segment_roles mode phase) segments) n 0) (sym (carrier_of_place mode k))
      ∙ (get_or_joined (segment_roles mode phase) (carriers_per_segment mode) (record { row = 0; kind = Coherent }) segments each_length
      (band_place mode k) (segment_place mode k) 0 (in_band mode (length segments) k below) (in_segment mode k)
      ∙ segment_at_lem mode phase (segment_in segments (band_place mode k)) (segment_place mode k) (in_segment mode k))))

  -- the map's byte is that of the role of the carrier
  pub map_says : (k : ℕ) → k < band_size mode segments → get_or (band_roles mode phase segments) k 0 ≡ role_byte (role_at mode phase segments k)
  map_says k h = map_at k (eqb k (edge_of mode segments)) refl h

  -- the carriers whose byte passes a test are those that another test chooses, where the tests agree at each carrier's role
  pub chosen_carriers : (t has : ℕ → Bool) → ((k : ℕ) → k < band_size mode segments → t (role_byte (role_at mode phase segments k)) ≡ has k)
      → chosen t 0 (band_roles mode phase segments) ≡ select has (range (band_size mode segments))
  chosen_carriers t has h =
      chosen_select t (band_roles mode phase segments)
      ∙ rw band_length
      (select_same (λ k. t (get_or (band_roles mode phase segments) k 0)) has (band_size mode segments) (λ k l. ap t (map_says k l) ∙ h k l))

  module _ (rows : rows_below segments) (in_cycle : phase < 4) where
    has_at : (k : ℕ) (b : Bool) → eqb k (edge_of mode segments) ≡ b → k < band_size mode segments
        → (r : CarrierRole) → has_role mode phase segments k r ≡ eqb (role_byte (role_at mode phase segments k)) (role_byte r)
    unfolding has_role
    has_at k true e h r = rw e (edge_byte r)
    has_at k false e h r =
        let below : k < edge_of mode segments = below_edge k e h in
        rw e
        (place_has_lem mode (segment_in segments (band_place mode k)) phase (segment_place mode k) r
        (row_below segments rows (band_place mode k) (in_band mode (length segments) k below)) in_cycle (in_segment mode k))

    -- a carrier has its role and no other
    pub has_one : (k : ℕ) → k < band_size mode segments → (r : CarrierRole)
        → has_role mode phase segments k r ≡ eqb (role_byte (role_at mode phase segments k)) (role_byte r)
    has_one k h r = has_at k (eqb k (edge_of mode segments)) refl h r

    -- a carrier has the role that the map says and no other
    pub has_role_lem : (k : ℕ) → k < band_size mode segments → (r : CarrierRole)
        → has_role mode phase segments k r ≡ eqb (get_or (band_roles mode phase segments) k 0) (role_byte r)
    has_role_lem k h r = rw (map_says k h) (has_one k h r)

    -- the carriers whose byte in the map is that of a role are those that have the role
    pub role_carriers : (r : CarrierRole)
        → chosen (between (role_byte r) (role_byte r)) 0 (band_roles mode phase segments) ≡ carriers_of mode phase segments r
    role_carriers r =
        chosen_carriers (between (role_byte r) (role_byte r)) (λ k. has_role mode phase segments k r)
        (λ k h. between_one (role_byte r) (role_byte (role_at mode phase segments k)) ∙ sym (has_one k h r))

    -- the carriers of the seven roles, joined, rearrange the carriers of the band
    pub rearranged : Perm (joined (carriers_of mode phase segments) every_role) (range (band_size mode segments))
    rearranged =
        sorted_perm (λ r k. has_role mode phase segments k r) every_role (band_size mode segments) (λ k h.
        passes_same (has_role mode phase segments k) (λ r. eqb (role_byte (role_at mode phase segments k)) (role_byte r)) every_role (has_one k h)
        ∙ once (role_at mode phase segments k))

-- document 01's words, for the wide band: of a mode, any kinds and any phase, the seven roles' carriers joined rearrange 0 to k_total - 1
pub wide_rearranged : (mode : Mode) (kinds : List ℕ) (phase : ℕ) → phase < 4
    → Perm (joined (carriers_of mode phase (wide kinds)) every_role) (range (total_carriers mode))
wide_rearranged mode kinds phase in_cycle =
    subst (λ (n : ℕ). Perm (joined (carriers_of mode phase (wide kinds)) every_role) (range n)) (wide_size mode kinds)
    (rearranged mode phase (wide kinds) (wide_rows kinds) in_cycle)
