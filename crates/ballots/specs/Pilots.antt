-- The pairs of pilots 12 carriers apart lie within the band, and a phase has at most 512 of them, as the laws of gain ask: each of the
-- thirteen segments has at most 36 pilots. No pair is lost: of two pilots 12 carriers apart, one stands right behind the other.
-- Assumes nothing.
use Rattle.std.specs.Prelude.{ℕ, zero, suc, ◌+◌, ◌*◌, ◌%◌, ◌≤◌, ◌<◌, Bool, true, false, cond, ◌||◌, List, [], ◌∷◌, ◌++◌, ◌≡◌, refl, eqb, leb, length}
use Rattle.std.proofs.Common.{zero-le, sym, ap, subst, ◌∙◌, le_trans, le_of_eq, zero-add, arith, eq-eqb, ne_eqb, eqb-true, leb-true, length-append}
use Rattle.lists.specs.Lists.{up_to, joined, chosen}
use Rattle.lists.specs.Tests.{memb, all_below, all_below_at, count_below}
use Rattle.lists.specs.Select.{length_up_to, chosen_append, length_chosen, count_same, AscendingFrom}
use Rattle.lists.specs.Search.{member_low}
use Rattle.params.specs.declared.Mode.{Mode}
use Rattle.params.specs.declared.Mode.TheVariants.{M1, M2, M3}
use Rattle.params.specs.declared.SegmentKind.{SegmentKind}
use Rattle.params.specs.declared.SegmentKind.TheVariants.{Coherent, Differential}
use Rattle.params.specs.Params.{carriers_per_segment, total_carriers}
use Rattle.tables.specs.Places.{is_sp, is_cp, tmcc_of, ac1_of, ac2_of}
use Rattle.frame.specs.declared.CarrierRole.TheVariants.{EdgeCp}
use Rattle.frame.specs.Roles.{first_claim, OfdmSegment, role_byte, place_role, segment_roles, band_roles, wide}
use Rattle.frame.specs.OneRole.{segment_length, band_length, wide_size}
use Rattle.ballots.specs.Ballots.{pilots, twelve_apart, pilot_pairs}

-- the byte of a scattered pilot
abbrev pub is_pilot : ℕ → Bool
is_pilot role = eqb role 1

-- ---- the pilots are carriers of the band
abbrev Below : ℕ → List ℕ → Type 0
Below n [] = Unit {0}
Below n (k ∷ ks) = (k < n) × Below n ks

chosen_below : (p : ℕ → Bool) (k n : ℕ) (xs : List ℕ) → k + length xs ≤ n → Below n (chosen p k xs)
chosen_below p k n [] h = tt
chosen_below p k n (x ∷ xs) h = by (p x) (chosen_below p (suc k) n xs (omega arith))
  where
    by : (b : Bool) → Below n (chosen p (suc k) xs) → Below n (cond b (k ∷ chosen p (suc k) xs) (chosen p (suc k) xs))
    by true r = (omega arith, r)
    by false r = r

-- each entry lies below n, and so does the carrier 12 further on
abbrev pub Apart : ℕ → List ℕ → Type 0
Apart n [] = Unit {0}
Apart n (a ∷ ks) = (a + 12 < n) × Apart n ks

apart_below : (n : ℕ) (ks : List ℕ) → Below n ks → Apart n (twelve_apart ks)
unfolding twelve_apart
apart_below n [] h = tt
apart_below n (a ∷ []) h = tt
apart_below n (a ∷ b ∷ ks) h = by (eqb b (a + 12)) refl (apart_below n (b ∷ ks) h.1)
  where
    by : (t : Bool) → eqb b (a + 12) ≡ t → Apart n (twelve_apart (b ∷ ks)) → Apart n (cond t (a ∷ twelve_apart (b ∷ ks)) (twelve_apart (b ∷ ks)))
    by true e r = (subst (λ (z : ℕ). z < n) (eqb-true b (a + 12) e) h.1.0, r)
    by false e r = r

pub pilots_apart : (mode : Mode) (kinds : List ℕ) (phase : ℕ) → Apart (total_carriers mode) (pilot_pairs mode kinds phase)
unfolding pilots
pilots_apart mode kinds phase =
    let n = total_carriers mode in
    let roles = band_roles mode phase (wide kinds) in
    let e : 0 + length roles ≡ n = zero-add (length roles) ∙ band_length mode phase (wide kinds) ∙ wide_size mode kinds in
    apart_below n (pilots mode kinds phase) (chosen_below is_pilot 0 n roles (le_of_eq e))

-- ---- the pilots of a segment
-- a place is a pilot where the first test says so, whatever the others say
pilot_first : (sp cp t a b : Bool) → eqb (role_byte (first_claim sp cp t a b)) 1 ≡ sp
pilot_first true cp t a b = refl
pilot_first false true t a b = refl
pilot_first false false true a b = refl
pilot_first false false false true b = refl
pilot_first false false false false true = refl
pilot_first false false false false false = refl

pub place_pilot : (mode : Mode) (s : OfdmSegment) (phase p : ℕ) → eqb (role_byte (place_role mode s phase p)) 1 ≡ is_sp s.kind phase p
unfolding place_role
place_pilot mode s phase p =
    pilot_first (is_sp s.kind phase p) (is_cp s.kind p) (memb p (tmcc_of mode s.kind s.row)) (memb p (ac1_of mode s.kind s.row))
    (memb p (ac2_of mode s.kind s.row))

-- one place more
pub last_chosen : (f : ℕ → ℕ) (k n : ℕ) → chosen is_pilot k (up_to f (suc n)) ≡ chosen is_pilot k (up_to f n) ++ cond (is_pilot (f n)) ((k + n) ∷ []) []
last_chosen f k n = chosen_append is_pilot k (up_to f n) (f n ∷ []) ∙ rw (length_up_to f n)

-- a segment is whole twelves
pub twelves : (mode : Mode) → carriers_per_segment mode % 12 ≡ 0
twelves M1 = refl
twelves M2 = refl
twelves M3 = refl

-- ---- there are few of them
-- every twelfth place of a coherent segment
coherent_few : (mode : Mode) → all_below (λ phase. leb (count_below (is_sp Coherent phase) (carriers_per_segment mode)) 36) 4 ≡ true
coherent_few M1 = refl
coherent_few M2 = refl
coherent_few M3 = refl

none_below : (n : ℕ) → count_below (λ p. false) n ≡ 0
none_below zero = refl
none_below (suc n) = zero-add (count_below (λ p. false) n) ∙ none_below n

count_few : (mode : Mode) (kind : SegmentKind) (phase : ℕ) → phase < 4 → count_below (is_sp kind phase) (carriers_per_segment mode) ≤ 36
count_few mode Coherent phase h =
    leb-true _ _ (all_below_at (λ phase. leb (count_below (is_sp Coherent phase) (carriers_per_segment mode)) 36) 4 (coherent_few mode) phase h)
count_few mode Differential phase h = rw (none_below (carriers_per_segment mode)) zero-le

segment_few : (mode : Mode) (phase k : ℕ) (s : OfdmSegment) → phase < 4 → length (chosen is_pilot k (segment_roles mode phase s)) ≤ 36
unfolding segment_roles
segment_few mode phase k s h =
    le_trans (le_of_eq (length_chosen is_pilot (λ p. role_byte (place_role mode s phase p)) k (carriers_per_segment mode)
    ∙ count_same _ (is_sp s.kind phase) (carriers_per_segment mode) (place_pilot mode s phase))) (count_few mode s.kind phase h)

segments_few : (mode : Mode) (phase k : ℕ) (segments : List OfdmSegment) → phase < 4
    → length (chosen is_pilot k (joined (segment_roles mode phase) segments)) ≤ 36 * length segments
segments_few mode phase k [] h = zero-le
segments_few mode phase k (s ∷ segments) h =
    let here = segment_roles mode phase s in
    let e = ap length (chosen_append is_pilot k here (joined (segment_roles mode phase) segments))
    ∙ length-append (chosen is_pilot k here) (chosen is_pilot (k + length here) (joined (segment_roles mode phase) segments)) in
    omega (arith, e, segment_few mode phase k s h, segments_few mode phase (k + length here) segments h)

length_apart : (ks : List ℕ) → length (twelve_apart ks) ≤ length ks
unfolding twelve_apart
length_apart [] = zero-le
length_apart (a ∷ []) = zero-le
length_apart (a ∷ b ∷ ks) = by (eqb b (a + 12)) (length_apart (b ∷ ks))
  where
    by : (t : Bool) → length (twelve_apart (b ∷ ks)) ≤ suc (length ks)
        → length (cond t (a ∷ twelve_apart (b ∷ ks)) (twelve_apart (b ∷ ks))) ≤ suc (suc (length ks))
    by true l = omega arith
    by false l = omega arith

pub few_pilots : (mode : Mode) (kinds : List ℕ) (phase : ℕ) → phase < 4 → length (pilot_pairs mode kinds phase) ≤ 512
unfolding pilots band_roles
few_pilots mode kinds phase h =
    let roles = joined (segment_roles mode phase) (wide kinds) in
    let e = ap length (chosen_append is_pilot 0 roles (role_byte EdgeCp ∷ [])) ∙ length-append (chosen is_pilot 0 roles) [] in
    omega (arith, length_apart (pilots mode kinds phase), e, segments_few mode phase 0 (wide kinds) h)

-- ---- no pair is lost
-- each entry leaves r, divided by 12
abbrev pub Leaves : ℕ → List ℕ → Type 0
Leaves r [] = Unit {0}
Leaves r (k ∷ ks) = (k % 12 ≡ r) × Leaves r ks

leaves_append : (r : ℕ) (ks ls : List ℕ) → Leaves r ks → Leaves r ls → Leaves r (ks ++ ls)
leaves_append r [] ls h g = g
leaves_append r (k ∷ ks) ls h g = (h.0, leaves_append r ks ls h.1 g)

leaves_chosen : (f : ℕ → ℕ) (r k : ℕ) → ((p : ℕ) → is_pilot (f p) ≡ true → (k + p) % 12 ≡ r) → (n : ℕ) → Leaves r (chosen is_pilot k (up_to f n))
leaves_chosen f r k h zero = tt
leaves_chosen f r k h (suc n) =
    rw (last_chosen f k n) (leaves_append r (chosen is_pilot k (up_to f n)) _ (leaves_chosen f r k h n) (by (is_pilot (f n)) refl))
  where
    by : (b : Bool) → is_pilot (f n) ≡ b → Leaves r (cond b ((k + n) ∷ []) [])
    by true e = (h n e, tt)
    by false e = tt

sp_leaves : (kind : SegmentKind) (phase p : ℕ) → is_sp kind phase p ≡ true → p % 12 ≡ 3 * phase
sp_leaves Coherent phase p e = eqb-true (p % 12) (3 * phase) e
sp_leaves Differential phase p e = cc

-- a segment is whole twelves, so the pilots of all segments leave 3 times the phase
segments_leave : (mode : Mode) (phase k : ℕ) (segments : List OfdmSegment) → k % 12 ≡ 0
    → Leaves (3 * phase) (chosen is_pilot k (joined (segment_roles mode phase) segments))
unfolding segment_roles
segments_leave mode phase k [] h = tt
segments_leave mode phase k (s ∷ segments) h =
    let here = segment_roles mode phase s in
    let rest = joined (segment_roles mode phase) segments in
    let leaves : (p : ℕ) → is_pilot (role_byte (place_role mode s phase p)) ≡ true → (k + p) % 12 ≡ 3 * phase =
    λ p e. omega (arith, sp_leaves s.kind phase p (sym (place_pilot mode s phase p) ∙ e)) in
    rw (chosen_append is_pilot k here rest)
    (leaves_append (3 * phase) (chosen is_pilot k here) (chosen is_pilot (k + length here) rest)
    (leaves_chosen (λ p. role_byte (place_role mode s phase p)) (3 * phase) k leaves (carriers_per_segment mode))
    (segments_leave mode phase (k + length here) segments (omega (arith, segment_length mode phase s, twelves mode))))

pub pilots_leave : (mode : Mode) (kinds : List ℕ) (phase : ℕ) → Leaves (3 * phase) (pilots mode kinds phase)
unfolding pilots band_roles
pilots_leave mode kinds phase =
    let roles = joined (segment_roles mode phase) (wide kinds) in
    rw (chosen_append is_pilot 0 roles (role_byte EdgeCp ∷ []))
    (leaves_append (3 * phase) (chosen is_pilot 0 roles) [] (segments_leave mode phase 0 (wide kinds) refl) tt)

-- in a list that ascends and whose entries all leave r, none lies between a and a + 12, so a + 12 stands right behind a
pub apart_member : (r low a : ℕ) (ks : List ℕ) → AscendingFrom low ks → Leaves r ks → memb a ks ≡ true → memb (a + 12) ks ≡ true
    → memb a (twelve_apart ks) ≡ true
unfolding twelve_apart
apart_member r low a [] h l m n = m
apart_member r low a (x ∷ []) h l m n = by (eqb x a) refl m
  where
    by : (b : Bool) → eqb x a ≡ b → (b || false) ≡ true → false ≡ true
    by true e m = rw (ne_eqb x (a + 12) (λ z. omega (arith, eqb-true))) at n
    by false e m = m
apart_member r low a (x ∷ y ∷ ks) h l m n = by (eqb x a) refl m (apart_member r (suc x) a (y ∷ ks) h.1 l.1)
  where
    keep : (t : Bool) → eqb x a ≡ false → memb a (twelve_apart (y ∷ ks)) ≡ true → memb a (cond t (x ∷ twelve_apart (y ∷ ks)) (twelve_apart (y ∷ ks))) ≡ true
    keep true e g = rw e g
    keep false e g = g

    by : (b : Bool) → eqb x a ≡ b → (b || memb a (y ∷ ks)) ≡ true
        → (memb a (y ∷ ks) ≡ true → memb (a + 12) (y ∷ ks) ≡ true → memb a (twelve_apart (y ∷ ks)) ≡ true) → memb a (twelve_apart (x ∷ y ∷ ks)) ≡ true
    by true e m later =
        let z = eqb-true x a e in
        let high = member_low y (a + 12) (y ∷ ks) (omega arith, h.1.1) (rw (ne_eqb x (a + 12) (λ g. omega arith)) at n) in
        rw (eq-eqb y (x + 12) (omega arith), e)
    by false e m later =
        let low = member_low (suc x) a (y ∷ ks) h.1 m in
        keep (eqb y (x + 12)) e (later m (rw (ne_eqb x (a + 12) (λ g. omega arith)) at n))
