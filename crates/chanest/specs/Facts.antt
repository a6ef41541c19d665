-- What the grid is worth: it keeps its length and every point that no pilot gives; the others depend on nothing that was lent; with no coherent
-- segment nothing changes; and its points are the standard's pilots, scattered in the coherent segments and continual above them.
-- Assumes nothing.
use Rattle.std.specs.Prelude.{ℕ, ◌+◌, ◌-◌, ◌*◌, ◌/◌, ◌%◌, ◌<◌, Bool, cond, ◌&&◌, ◌||◌, ◌≡◌, ltb, get_or, length, Float, Option, Some, None}
use Rattle.std.proofs.Math.Bool.{true, false}
use mathlib.Core.List.{List, [], Memᴰ}
use Rattle.std.proofs.Math.Path.{refl, sym, ap}
use Rattle.std.proofs.Common.{◌∙◌, arith, eqb-true, ltb-true, eq-eqb, ne_eqb, lt-ltb, le-ltb, lit<}
use Rattle.std.proofs.Math.Decide.{dec_lt}
use Rattle.std.proofs.Math.Dec.{eqb}
use Rattle.lists.specs.Tests.{both_left, both_right}
use Rattle.lists.specs.Refusals.{passed}
use Rattle.lists.specs.Select.{length_up_to}
use Rattle.params.specs.declared.Mode.{Mode}
use Rattle.params.specs.declared.SegmentKind.TheVariants.{Coherent, Differential}
use Rattle.params.specs.Params.{carriers_per_segment}
use Rattle.ofdm.specs.declared.BandCarrier.{BandCarrier}
use Rattle.ofdm.specs.Band.{segment_at}
use Rattle.ofdm.specs.Laws.{segment_below}
use Rattle.complex.specs.Complex.{Pair}
use Rattle.spectra.specs.Spectra.{pair_at}
use Rattle.spectra.specs.Flat.{length_flat, pair_flat, flat_own}
use Rattle.frame.specs.declared.CarrierRole.TheVariants.{Sp, Cp, EdgeCp}
use Rattle.frame.specs.Operations.{are_kinds}
use Rattle.frame.specs.Roles.{OfdmSegment, role_byte, place_role, band_roles, wide_segment, wide}
use Rattle.frame.specs.OneRole.{segment_in_lem, map_says}
use Rattle.pilot_times.specs.declared.Current.{Current}
use Rattle.pilot_times.specs.declared.Window.{Window}
use Rattle.pilot_times.specs.declared.Offsets.{Offsets}
use Rattle.pilot_times.specs.Window.{at_least_one, scattered_offsets, in_window, phase_in}
use Rattle.pilot_times.specs.Reaching.{in_window_lem}
use Rattle.pilot_line.specs.Line.{line_at_zero}
use Rattle.pilot_line.specs.Estimate.{carrier_in, points_in, estimate_of}
use Rattle.chanest.specs.Grid.{carrier_of, segment_points, grid_points, coherent_at, is_scattered, is_closing, back_of, window_of}
use Rattle.chanest.specs.Grid.{estimate_at, scattered_at, continual_at, value_at, grid_of, grid, window_code, grid_code, grid_leaves}
use Rattle.chanest.specs.Places.{pointed, same_place, place_in_segment, in_phase, inside, below, closes}
use Rattle.chanest.specs.Codes.{accepted}

no_closing : (a b c : Bool) → c ≡ false → (a && (b && c)) ≡ false
no_closing true true c e = e
no_closing true false c e = refl
no_closing false b c e = refl

not_coherent : (kinds : List ℕ) → ((seg : ℕ) → seg < 13 → get_or kinds seg 0 ≡ 1) → (place : ℕ) → Dec (place < 13) → coherent_at kinds place ≡ false
not_coherent kinds h place (yes l) = rw (lt-ltb place 13 l, h (segment_at place) (segment_below place l))
not_coherent kinds h place (no g) = rw (le-ltb place 13 (omega arith))

-- ---- what is kept, and what is written
module _ (m : Mode) (kinds : List ℕ) (xs : List Float) (current : Current) (old : List Float) where
  abbrev Accepted : Type 0
  Accepted = grid_code (Some m) kinds (length xs) current (length old) ≡ 0

  abbrev given : List Float
  given = grid m kinds xs current old

  abbrev left : List Float
  left = grid_leaves (Some m) kinds xs current old

  -- an accepted call was lent a whole grid
  whole : Accepted → length old ≡ 2 * grid_points m
  unfolding grid_code
  whole a = (accepted m (length xs) current (length old) (passed (are_kinds kinds) 2 _ (lit< tt) a).rest).room

  -- what is left is the grid, or what was lent
  either : (P : List Float → Type 0) → (Accepted → P given) → P old → P left
  unfolding grid_leaves
  either P new same = by (eqb (grid_code (Some m) kinds (length xs) current (length old)) 0) refl
    where
      by : (b : Bool) → eqb (grid_code (Some m) kinds (length xs) current (length old)) 0 ≡ b → P (cond b given old)
      by true e = new (eqb-true _ _ e)
      by false e = same

  left_given : Accepted → left ≡ given
  unfolding grid_leaves
  left_given a = rw (eq-eqb _ _ a)

  given_length : length given ≡ 2 * grid_points m
  unfolding grid_of
  given_length = length_flat _ ∙ ap (λ (n : ℕ). 2 * n) (length_up_to _ (grid_points m))

  given_at : (i : ℕ) → i < grid_points m → pair_at given i ≡ value_at m kinds xs (at_least_one current) (pair_at old i) i
  unfolding grid_of
  given_at i h = pair_flat _ (grid_points m) i h

  point_kept : (v : Pair) (i : ℕ) → is_scattered m kinds i ≡ false → is_closing m kinds i ≡ false → value_at m kinds xs (at_least_one current) v i ≡ v
  unfolding value_at
  point_kept v i s c = rw (s, c)

  -- the grid keeps its length
  pub length_kept : length left ≡ length old
  length_kept = either (λ z. length z ≡ length old) (λ a. given_length ∙ sym (whole a)) refl

  module _ (i : ℕ) (h : i < grid_points m) where
    -- a point that is no pilot's holds the very pair that was lent
    pub kept : is_scattered m kinds i ≡ false → is_closing m kinds i ≡ false → pair_at left i ≡ pair_at old i
    kept s c = either (λ z. pair_at z i ≡ pair_at old i) (λ a. given_at i h ∙ point_kept (pair_at old i) i s c) refl

    -- the others hold what their pilots give
    pub scattered_written : Accepted → is_scattered m kinds i ≡ true → pair_at left i ≡ scattered_at m xs (at_least_one current) i
    unfolding value_at
    scattered_written a s = ap (λ (z : List Float). pair_at z i) (left_given a) ∙ (given_at i h ∙ rw s)

    pub closing_written : Accepted → is_scattered m kinds i ≡ false → is_closing m kinds i ≡ true → pair_at left i ≡ continual_at m xs (at_least_one current) i
    unfolding value_at
    closing_written a s c = ap (λ (z : List Float). pair_at z i) (left_given a) ∙ (given_at i h ∙ rw (s, c))

  -- where no segment is coherent, the grid is bit for bit what was lent
  pub none_coherent : ((place : ℕ) → coherent_at kinds place ≡ false) → left ≡ old
  unfolding grid_of
  none_coherent none =
      either (λ z. z ≡ old) (λ a. sym (flat_own _ (grid_points m) old (whole a) (λ i h. sym (unchanged i)))) refl
    where
      unchanged : (i : ℕ) → value_at m kinds xs (at_least_one current) (pair_at old i) i ≡ pair_at old i
      unchanged i =
          point_kept (pair_at old i) i (none (i / segment_points m))
          (no_closing (eqb (i % segment_points m) 0) (ltb 0 i) _ (none (i / segment_points m - 1)))

  pub all_differential : ((seg : ℕ) → seg < 13 → get_or kinds seg 0 ≡ 1) → left ≡ old
  all_differential h = none_coherent (λ place. not_coherent kinds h place (dec_lt place 13))

-- a number that is no mode changes nothing either
pub no_mode : (kinds : List ℕ) (xs : List Float) (current : Current) (old : List Float) → grid_leaves None kinds xs current old ≡ old
unfolding grid_leaves
no_mode kinds xs current old = refl

-- a time window of 0 counts as 1
pub window_of_0 : (mode : Option Mode) (kinds : List ℕ) (xs : List Float) (phase index : ℕ) (old : List Float)
    → grid_leaves mode kinds xs (record { phase = phase; index = index; w = 0 }) old
    ≡ grid_leaves mode kinds xs (record { phase = phase; index = index; w = 1 }) old
unfolding grid_leaves grid_code window_code
window_of_0 None kinds xs phase index old = refl
window_of_0 (Some m) kinds xs phase index old = refl

-- where no spectrum of the window has a carrier's pilot, the carrier is taken as the current spectrum has it, sign and all
pub raw_taken : (m : Mode) (xs : List Float) (current : Current) (k : BandCarrier) (o : Offsets) → in_window (window_of m xs current) o ≡ []
    → estimate_at m xs current k o ≡ carrier_in (window_of m xs current) xs k current.index
unfolding estimate_at estimate_of points_in line_at_zero
raw_taken m xs current k o e = rw e

-- what pilots give depends on nothing that was lent
pub same_written : (m : Mode) (kinds : List ℕ) (xs : List Float) (current : Current) (old other : List Float) (i : ℕ) → i < grid_points m
    → length other ≡ length old → grid_code (Some m) kinds (length xs) current (length old) ≡ 0 → (is_scattered m kinds i || is_closing m kinds i) ≡ true
    → pair_at (grid_leaves (Some m) kinds xs current old) i ≡ pair_at (grid_leaves (Some m) kinds xs current other) i
same_written m kinds xs current old other i h l a s = by (is_scattered m kinds i) refl s
  where
    b : grid_code (Some m) kinds (length xs) current (length other) ≡ 0
    b = rw l a

    by : (c : Bool) → is_scattered m kinds i ≡ c → (c || is_closing m kinds i) ≡ true
        → pair_at (grid_leaves (Some m) kinds xs current old) i ≡ pair_at (grid_leaves (Some m) kinds xs current other) i
    by true e g = scattered_written m kinds xs current old i h a e ∙ sym (scattered_written m kinds xs current other i h b e)
    by false e g = closing_written m kinds xs current old i h a e g ∙ sym (closing_written m kinds xs current other i h b e g)

-- ---- the points are the standard's pilots
-- where spectrum 0 has phase p, and the current one is handed over with (p + index) mod 4, spectrum s has (p + s) mod 4
pub handed_over : (p index w s : ℕ) → phase_in (record { phase = (p + index) % 4; index = index; w = w }) s ≡ (p + s) % 4
handed_over p index w s = omega arith

sp_role : (m : Mode) (s : OfdmSegment) (phase p : ℕ) → s.kind ≡ Coherent → p % 12 ≡ 3 * phase → place_role m s phase p ≡ Sp
unfolding place_role
sp_role m s phase p k e = rw (k, eq-eqb _ _ e)

cp_role : (m : Mode) (s : OfdmSegment) (phase p : ℕ) → s.kind ≡ Differential → p ≡ 0 → place_role m s phase p ≡ Cp
unfolding place_role
cp_role m s phase p k e = rw (k, e)

module _ (m : Mode) (kinds : List ℕ) (i : ℕ) where
  abbrev segment : OfdmSegment
  segment = wide_segment kinds (segment_at (i / segment_points m))

  -- the role byte of point i's carrier, in a segment and at the edge
  segment_byte : (phase : ℕ) → i < 13 * segment_points m
      → get_or (band_roles m phase (wide kinds)) (3 * i) 0 ≡ role_byte (place_role m segment phase (3 * i % carriers_per_segment m))
  segment_byte phase h =
      let q = pointed m in
      map_says m phase (wide kinds) (3 * i) (omega (arith, q.carriers))
      ∙ rw (ne_eqb (3 * i) (13 * carriers_per_segment m) (λ e. omega (arith, q.carriers)), same_place m i, segment_in_lem kinds _ (below m i h))

  edge_byte : (phase : ℕ) → i ≡ 13 * segment_points m → get_or (band_roles m phase (wide kinds)) (3 * i) 0 ≡ role_byte EdgeCp
  edge_byte phase h =
      let q = pointed m in
      map_says m phase (wide kinds) (3 * i) (omega (arith, q.carriers))
      ∙ rw (eq-eqb (3 * i) (13 * carriers_per_segment m) (omega (arith, q.carriers)))

  -- a point of a coherent segment is a scattered pilot, in the symbols of phase i mod 4
  pub scattered_role : is_scattered m kinds i ≡ true → get_or (band_roles m (i % 4) (wide kinds)) (3 * i) 0 ≡ role_byte Sp
  scattered_role s =
      let within = ltb-true _ _ (both_left (ltb (i / segment_points m) 13) _ s) in
      let kind : segment.kind ≡ Coherent = rw (both_right (ltb (i / segment_points m) 13) _ s) in
      segment_byte (i % 4) (inside m i within) ∙ ap role_byte (sp_role m segment (i % 4) _ kind (in_phase m i))

  -- and so it is one in every spectrum s that its estimate, `scattered_at`, reads: in each that `in_window` gives for its offsets, s being a symbol
  -- of its own phase
  pub scattered_sent : is_scattered m kinds i ≡ true → (win : Window) → win.current.phase < 4
      → (s : ℕ) → Memᴰ s (in_window win (scattered_offsets win.current (back_of win.current i)))
      → get_or (band_roles m (phase_in win.current s) (wide kinds)) (carrier_of i).0 0 ≡ role_byte Sp
  scattered_sent c win h s l =
      let r = in_window_lem win _ s l in
      let q : phase_in win.current s ≡ i % 4 = omega (arith, r.at) in
      rw q (scattered_role c)

  -- a closing point is a continual pilot in every symbol: of the segment above, or the edge
  pub closing_role : is_scattered m kinds i ≡ false → is_closing m kinds i ≡ true → (phase : ℕ)
      → get_or (band_roles m phase (wide kinds)) (3 * i) 0 ≡ cond (ltb i (13 * segment_points m)) (role_byte Cp) (role_byte EdgeCp)
  closing_role s c phase = by (dec_lt i (13 * segment_points m))
    where
      start : i % segment_points m ≡ 0
      start = eqb-true _ _ (both_left (eqb (i % segment_points m) 0) _ c)

      under : i / segment_points m - 1 < 13
      under = ltb-true _ _ (both_left (ltb (i / segment_points m - 1) 13) _ (both_right (ltb 0 i) _ (both_right (eqb (i % segment_points m) 0) _ c)))

      by : Dec (i < 13 * segment_points m)
          → get_or (band_roles m phase (wide kinds)) (3 * i) 0 ≡ cond (ltb i (13 * segment_points m)) (role_byte Cp) (role_byte EdgeCp)
      by (yes h) =
          let differs : eqb (get_or kinds (segment_at (i / segment_points m)) 0) 0 ≡ false = rw (lt-ltb _ 13 (below m i h)) at s in
          let kind : segment.kind ≡ Differential = rw differs in
          rw (lt-ltb i (13 * segment_points m) h)
          (segment_byte phase h ∙ ap role_byte (cp_role m segment phase _ kind (omega (arith, place_in_segment m i, start))))
      by (no g) =
          let e : i ≡ 13 * segment_points m = omega (arith, closes m i start under) in
          rw (le-ltb i (13 * segment_points m) (omega arith)) (edge_byte phase e)
