-- How many carriers a continual list has: at most 157, 313 and 625 in modes 1, 2 and 3, which thirteen differential segments reach.
-- Assumes nothing.
use Rattle.std.specs.Prelude.{ℕ, suc, ◌+◌, ◌*◌, ◌-◌, ◌≤◌, ◌<◌, Bool, true, false, cond, ◌≡◌, eqb, get_or, replicate}
use Rattle.std.proofs.Common.{suc-le-suc, ◌∙◌, suc-mul, arith, le-leb, eq-eqb, ne_eqb, lit≤, lit<, length-append}
use mathlib.Core.List.{List, [], ◌∷◌, ◌++◌}
use Rattle.std.proofs.Math.Path.{refl, ap}
use Rattle.std.proofs.Math.Decide.{dec_lt}
use Rattle.std.proofs.lemmas.Bool.{lt-leb}
use Rattle.std.proofs.Math.ListN.{length}
use Rattle.std.proofs.lemmas.List.{get_or-replicate}
use Rattle.lists.specs.Lists.{joined, select, chosen}
use Rattle.lists.specs.Select.{length_joined}
use Rattle.params.specs.declared.Mode.{Mode}
use Rattle.params.specs.declared.Mode.TheVariants.{M1, M2, M3}
use Rattle.params.specs.declared.SegmentKind.{SegmentKind}
use Rattle.params.specs.declared.SegmentKind.TheVariants.{Coherent, Differential}
use Rattle.params.specs.Params.{carriers_per_segment, kind_from}
use Rattle.tables.specs.Places.{one}
use Rattle.ofdm.specs.Band.{order, segment_at, place_of}
use Rattle.ofdm.specs.Laws.{segment_below}
use Rattle.frame.specs.declared.AcKind.TheVariants.{Ac1, Ac2}
use Rattle.frame.specs.declared.CarrierRole.TheVariants.{Cp, Tmcc, Ac}
use Rattle.frame.specs.Roles.{role_byte, segment_roles, band_roles, wide_segment, wide, between, is_tmcc, is_ac, is_cp_byte}
use Rattle.frame.specs.OneRole.{between_one}
use Rattle.frame.specs.BySegment.{by_segment}
use Rattle.role_counts.specs.declared.KindCounts.{KindCounts}
use Rattle.role_counts.specs.Counts.{count_role, units, kind_counts}
use Rattle.counted_roles.specs.CountedRoles.{segment_counted}
use Rattle.carrier_lists.specs.CarrierLists.{continual_in, continual_list}

-- the most numbers of a continual list
abbrev pub most_continual : Mode → ℕ
most_continual M1 = 157
most_continual M2 = 313
most_continual M3 = 625

-- the bytes of CP, TMCC, AC1 and AC2 follow one another
abbrev pub is_continual : ℕ → Bool
is_continual = between (role_byte Cp) (role_byte (Ac Ac2))

-- one byte more
between_more : (low n b : ℕ) → low ≤ suc n → one (between low (suc n) b) ≡ one (between low n b) + one (eqb b (suc n))
between_more low n b h = by (dec_lt b low) (dec_lt n b) (dec_lt (suc n) b)
  where
    by : Dec (b < low) → Dec (n < b) → Dec (suc n < b) → one (between low (suc n) b) ≡ one (between low n b) + one (eqb b (suc n))
    by (yes l) d e = rw (lt-leb low b l, ne_eqb b (suc n) (λ q. omega arith))
    by (no l) (no d) e =
        rw (le-leb low b (omega arith), le-leb b n (omega arith), le-leb b (suc n) (omega arith), ne_eqb b (suc n) (λ q. omega arith))
    by (no l) (yes d) (no e) =
        rw (le-leb low b (omega arith), lt-leb b n d, le-leb b (suc n) (omega arith), eq-eqb b (suc n) (omega arith))
    by (no l) (yes d) (yes e) = rw (le-leb low b (omega arith), lt-leb b n d, lt-leb b (suc n) e, ne_eqb b (suc n) (λ q. omega arith))

each_byte : (b : ℕ) → one (is_continual b) ≡ one (eqb b 2) + one (eqb b 3) + one (eqb b 4) + one (eqb b 5)
each_byte b =
    omega (
      arith,
      between_more 2 4 b (lit≤ tt),
      between_more 2 3 b (lit≤ tt),
      between_more 2 2 b (lit≤ tt),
      ap one (between_one 2 b),
    )

each_group : (b : ℕ) → one (is_continual b) ≡ one (is_tmcc b) + one (is_ac b) + one (is_cp_byte b)
each_group b =
    omega (
      arith,
      each_byte b,
      between_more 4 4 b (lit≤ tt),
      ap one (between_one 4 b),
      ap one (between_one 3 b),
      ap one (between_one 2 b),
    )

-- a byte more of those that are counted
chosen_more : (t : ℕ → Bool) (k b : ℕ) (bs : List ℕ) → length (chosen t k (b ∷ bs)) ≡ one (t b) + length (chosen t (suc k) bs)
chosen_more t k b bs = by (t b)
  where
    by : (q : Bool) → length (cond q (k ∷ chosen t (suc k) bs) (chosen t (suc k) bs)) ≡ one q + length (chosen t (suc k) bs)
    by true = omega arith
    by false = omega arith

select_more : (t : ℕ → Bool) (b : ℕ) (bs : List ℕ) → length (select t (b ∷ bs)) ≡ one (t b) + length (select t bs)
select_more t b bs = by (t b)
  where
    by : (q : Bool) → length (cond q (b ∷ select t bs) (select t bs)) ≡ one q + length (select t bs)
    by true = omega arith
    by false = omega arith

-- the carriers of the three groups together
pub groups_counted : (k : ℕ) (roles : List ℕ)
    → length (chosen is_continual k roles) ≡ length (chosen is_tmcc k roles) + length (chosen is_ac k roles) + length (chosen is_cp_byte k roles)
groups_counted k [] = refl
groups_counted k (b ∷ bs) =
    omega (
      arith,
      each_group b,
      groups_counted (suc k) bs,
      chosen_more is_continual k b bs,
      chosen_more is_tmcc k b bs,
      chosen_more is_ac k b bs,
      chosen_more is_cp_byte k b bs,
    )

-- and role by role
roles_counted : (k : ℕ) (roles : List ℕ)
    → length (chosen is_continual k roles)
    ≡ count_role Cp roles + count_role Tmcc roles + count_role (Ac Ac1) roles + count_role (Ac Ac2) roles
roles_counted k [] = refl
roles_counted k (b ∷ bs) =
    omega (
      arith,
      each_byte b,
      roles_counted (suc k) bs,
      chosen_more is_continual k b bs,
      select_more (λ x. eqb x 2) b bs,
      select_more (λ x. eqb x 3) b bs,
      select_more (λ x. eqb x 4) b bs,
      select_more (λ x. eqb x 5) b bs,
    )

-- the list has a number for each of them, and the edge
pub continual_count : (roles : List ℕ) → length (continual_in roles) ≡ length (chosen is_continual 0 roles) + 1
continual_count roles =
    let t = chosen is_tmcc 0 roles in
    let a = chosen is_ac 0 roles in
    let c = chosen is_cp_byte 0 roles in
    let edge = (length roles - 1) ∷ [] in
    omega (
      arith,
      groups_counted 0 roles,
      length-append t (a ++ (c ++ edge)),
      length-append a (c ++ edge),
      length-append c edge,
    )

-- the continual carriers of a segment of a mode and kind
abbrev continual_of : Mode → SegmentKind → ℕ
continual_of mode kind = sum (kind_counts mode kind)
  where
    sum : KindCounts → ℕ
    sum k = k.cp + k.tmcc + k.ac1 + k.ac2

few_continual : (mode : Mode) (kind : SegmentKind) → continual_of mode kind ≤ 12 * units mode
few_continual M1 Coherent = lit≤ tt
few_continual M1 Differential = lit≤ tt
few_continual M2 Coherent = lit≤ tt
few_continual M2 Differential = lit≤ tt
few_continual M3 Coherent = lit≤ tt
few_continual M3 Differential = lit≤ tt

all_differential : (mode : Mode) → continual_of mode Differential ≡ 12 * units mode
all_differential M1 = refl
all_differential M2 = refl
all_differential M3 = refl

all_of : (mode : Mode) → 13 * (12 * units mode) + 1 ≡ most_continual mode
all_of M1 = refl
all_of M2 = refl
all_of M3 = refl

-- parts of at most m entries each
joined_few : (f : ℕ → List ℕ) (m : ℕ) (xs : List ℕ) → ((i : ℕ) → i < length xs → length (f (get_or xs i 0)) ≤ m) → length (joined f xs) ≤ length xs * m
joined_few f m [] h = omega arith
joined_few f m (x ∷ xs) h =
    rw (length-append (f x) (joined f xs), suc-mul (length xs) m)
    (omega (arith, h 0 (omega arith), joined_few f m xs (λ i l. h (suc i) (suc-le-suc l))))

module _ (mode : Mode) (kinds : List ℕ) where
  abbrev of_segment : ℕ → List ℕ
  of_segment seg = chosen is_continual (place_of seg * carriers_per_segment mode) (segment_roles mode 0 (wide_segment kinds seg))

  segment_count : (seg : ℕ) → seg < 13 → length (of_segment seg) ≡ continual_of mode (kind_from (get_or kinds seg 0))
  segment_count seg h =
      let k = segment_counted mode (kind_from (get_or kinds seg 0)) seg 0 h (lit< tt) in
      roles_counted _ (segment_roles mode 0 (wide_segment kinds seg)) ∙ rw (k.cp, k.tmcc, k.ac1, k.ac2)

  by_parts : length (continual_list mode kinds) ≡ length (joined of_segment order) + 1
  unfolding continual_list
  by_parts = continual_count (band_roles mode 0 (wide kinds)) ∙ ap (λ (l : List ℕ). length l + 1) (by_segment is_continual refl mode 0 kinds)

  -- for any kinds, a continual list has no more numbers
  pub continual_most : length (continual_list mode kinds) ≤ most_continual mode
  continual_most =
      let parts = joined_few of_segment (12 * units mode) order (λ i l. each i l) in
      omega (arith, by_parts, parts, all_of mode)
    where
      each : (i : ℕ) → i < 13 → length (of_segment (segment_at i)) ≤ 12 * units mode
      each i l = rw (segment_count (segment_at i) (segment_below i l)) (few_continual mode (kind_from (get_or kinds (segment_at i) 0)))

-- thirteen differential segments have as many
pub continual_reached : (mode : Mode) → length (continual_list mode (replicate 13 1)) ≡ most_continual mode
continual_reached mode =
    by_parts mode (replicate 13 1)
    ∙ (ap (λ (n : ℕ). n + 1) (length_joined (of_segment mode (replicate 13 1)) (12 * units mode) 0 order (λ i l. each i l)) ∙ all_of mode)
  where
    each : (i : ℕ) → i < 13 → length (of_segment mode (replicate 13 1) (segment_at i)) ≡ 12 * units mode
    each i l =
        segment_count mode (replicate 13 1) (segment_at i) (segment_below i l)
        ∙ (ap (λ (k : ℕ). continual_of mode (kind_from k)) (get_or-replicate 13 (segment_at i) 1 0 (segment_below i l)) ∙ all_differential mode)
