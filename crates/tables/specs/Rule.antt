-- The tables' rule, for every mode, kind, row and phase: a row ascends, each entry is a place of the segment, no place has two roles, and the
-- places that no role claims are as many as the segment's data carriers. antt computes tests over all rows, and the laws read the rule off them.
-- Assumes nothing.
use Rattle.std.specs.Prelude.{ℕ, zero, suc, ◌+◌, ◌≤◌, ◌<◌, Bool, true, false, ◌&&◌, ◌||◌, List, [], ◌∷◌, ◌++◌, ◌⊎◌, ◌≡◌, refl, eqb, ltb, leb, length, get_or}
use Rattle.std.proofs.Math.Bool.{and_assoc}
use Rattle.std.proofs.Common.{inl, inr, ⊎_elim, not-suc-le-zero, leb-true, ltb-true, eqb-true, eq-eqb, ne_eqb, lit≤}
use native.Mathlib.Omega.{arith}
use Rattle.std.proofs.Math.Decide.{dec_lt}
use Rattle.lists.specs.Tests.{all_below, count_below, all_in, memb, both_left, both_right, all_below_at, all_in_at}
use Rattle.lists.specs.Select.{Ascending}
use Rattle.lists.specs.Search.{ascends, ascends_true}
use Rattle.params.specs.declared.Mode.{Mode}
use Rattle.params.specs.declared.Mode.TheVariants.{M1, M2, M3}
use Rattle.params.specs.declared.SegmentKind.{SegmentKind}
use Rattle.params.specs.declared.SegmentKind.TheVariants.{Coherent, Differential}
use Rattle.params.specs.Params.{carriers_per_segment, data_carriers_per_segment}
use Rattle.tables.specs.Places.{tmcc_of, ac1_of, ac2_of, one, is_sp, is_cp, claims}

-- the places of a row that carry TMCC, AC1 and AC2
abbrev pub entries_of : Mode → SegmentKind → ℕ → List ℕ
entries_of mode kind row = tmcc_of mode kind row ++ (ac1_of mode kind row ++ ac2_of mode kind row)

abbrev inside : Mode → List ℕ → Bool
inside mode xs = all_in (λ x. ltb x (carriers_per_segment mode)) xs

abbrev short : List ℕ → Bool
short xs = leb (length xs) 20

abbrev is_row : List ℕ → Bool
is_row xs = short xs && ascends 0 xs

abbrev fits : Mode → List ℕ → Bool
fits mode xs = inside mode xs && is_row xs

abbrev others_test : Mode → SegmentKind → ℕ → Bool
others_test mode kind row = fits mode (ac1_of mode kind row) && fits mode (ac2_of mode kind row)

abbrev fits_test : Mode → SegmentKind → ℕ → Bool
fits_test mode kind row = fits mode (tmcc_of mode kind row) && others_test mode kind row

-- how often x stands in the list
abbrev occurs : ℕ → List ℕ → ℕ
occurs x [] = 0
occurs x (y ∷ ys) = one (eqb y x) + occurs x ys

-- f at 0, 1, .. n - 1, added up
abbrev sum_below : (ℕ → ℕ) → ℕ → ℕ
sum_below f zero = 0
sum_below f (suc n) = f n + sum_below f n

abbrev pilots : SegmentKind → ℕ → ℕ → ℕ
pilots kind phase p = one (is_sp kind phase p) + one (is_cp kind p)

-- no entry is a pilot or stands there twice
abbrev once_test : SegmentKind → ℕ → List ℕ → Bool
once_test kind phase xs = all_in (λ x. eqb (pilots kind phase x + occurs x xs) 1) xs

-- pilots, entries and data carriers fill the segment
abbrev size_test : Mode → SegmentKind → ℕ → List ℕ → Bool
size_test mode kind phase xs =
    eqb (sum_below (pilots kind phase) (carriers_per_segment mode) + length xs + data_carriers_per_segment mode) (carriers_per_segment mode)

abbrev claims_test : Mode → SegmentKind → ℕ → ℕ → Bool
claims_test mode kind row phase = once_test kind phase (entries_of mode kind row) && size_test mode kind phase (entries_of mode kind row)

rows_tested : (mode : Mode) (kind : SegmentKind) → all_below (fits_test mode kind) 13 ≡ true
rows_tested M1 Coherent = refl
rows_tested M1 Differential = refl
rows_tested M2 Coherent = refl
rows_tested M2 Differential = refl
rows_tested M3 Coherent = refl
rows_tested M3 Differential = refl

coherent_tested : (mode : Mode) → all_below (λ row. all_below (claims_test mode Coherent row) 4) 13 ≡ true
coherent_tested M1 = refl
coherent_tested M2 = refl
coherent_tested M3 = refl

-- what a place of a differential segment is does not depend on the phase
differential_tested : (mode : Mode) → all_below (λ row. claims_test mode Differential row 0) 13 ≡ true
differential_tested M1 = refl
differential_tested M2 = refl
differential_tested M3 = refl

all_in_append : (f : ℕ → Bool) (xs ys : List ℕ) → all_in f (xs ++ ys) ≡ (all_in f xs && all_in f ys)
all_in_append f [] ys = refl
all_in_append f (x ∷ xs) ys = rw (all_in_append f xs ys, and_assoc)

occurs_append : (x : ℕ) (xs ys : List ℕ) → occurs x (xs ++ ys) ≡ occurs x xs + occurs x ys
occurs_append x [] ys = omega arith
occurs_append x (y ∷ xs) ys = rw (occurs_append x xs ys) (omega arith)

memb_occurs : (x : ℕ) (xs : List ℕ) → occurs x xs ≤ 1 → one (memb x xs) ≡ occurs x xs
memb_occurs x [] h = refl
memb_occurs x (y ∷ ys) h = by_head (eqb y x) h (λ l. memb_occurs x ys l)
  where
    by_head : (b : Bool) → one b + occurs x ys ≤ 1 → (occurs x ys ≤ 1 → one (memb x ys) ≡ occurs x ys)
        → one (b || memb x ys) ≡ one b + occurs x ys
    by_head true h r = omega arith
    by_head false h r = omega (arith, r (omega arith))

-- what every entry passes, a number passes too, or it is none of them
absent_or_passes : (f : ℕ → Bool) (xs : List ℕ) → all_in f xs ≡ true → (x : ℕ) → (occurs x xs ≡ 0) ⊎ (f x ≡ true)
absent_or_passes f [] e x = inl refl
absent_or_passes f (y ∷ ys) e x = by_head (eqb y x) refl (absent_or_passes f ys (both_right (f y) (all_in f ys) e) x)
  where
    by_head : (b : Bool) → eqb y x ≡ b → (occurs x ys ≡ 0) ⊎ (f x ≡ true) → (one b + occurs x ys ≡ 0) ⊎ (f x ≡ true)
    by_head true q r = inr (rw (eqb-true y x q) at (both_left (f y) (all_in f ys) e))
    by_head false q r = ⊎_elim (λ z. inl (omega arith)) (λ t. inr t) r

sum_same : (f g : ℕ → ℕ) (n : ℕ) → ((p : ℕ) → f p ≡ g p) → sum_below f n ≡ sum_below g n
sum_same f g zero e = refl
sum_same f g (suc n) e = rw (e n, sum_same f g n e)

sum_add : (f g : ℕ → ℕ) (n : ℕ) → sum_below (λ p. f p + g p) n ≡ sum_below f n + sum_below g n
sum_add f g zero = refl
sum_add f g (suc n) = rw (sum_add f g n) (omega arith)

sum_none : (n : ℕ) → sum_below (λ p. 0) n ≡ 0
sum_none zero = refl
sum_none (suc n) = rw (sum_none n)

sum_past : (y n : ℕ) → n ≤ y → sum_below (λ p. one (eqb y p)) n ≡ 0
sum_past y zero h = refl
sum_past y (suc n) h = rw (ne_eqb y n (λ q. omega arith), sum_past y n (omega arith))

sum_at_lem : (y n : ℕ) → y < n → sum_below (λ p. one (eqb y p)) n ≡ 1
sum_at_lem y zero h = absurd (not-suc-le-zero h)
sum_at_lem y (suc n) h = last (dec_lt y n) (λ l. sum_at_lem y n l)
  where
    last : Dec (y < n) → (y < n → sum_below (λ p. one (eqb y p)) n ≡ 1) → sum_below (λ p. one (eqb y p)) (suc n) ≡ 1
    last (yes l) r = rw (ne_eqb y n (λ q. omega arith), r l)
    last (no l) r = rw (eq-eqb y n (omega arith), sum_past y n (omega arith))

sum_occurs : (n : ℕ) (xs : List ℕ) → all_in (λ x. ltb x n) xs ≡ true → sum_below (λ p. occurs p xs) n ≡ length xs
sum_occurs n [] e = sum_none n
sum_occurs n (x ∷ xs) e =
    rw (
      sum_add (λ p. one (eqb x p)) (λ p. occurs p xs) n,
      sum_at_lem x n (ltb-true x n (both_left (ltb x n) (all_in (λ x. ltb x n) xs) e)),
      sum_occurs n xs (both_right (ltb x n) (all_in (λ x. ltb x n) xs) e),
    ) (omega arith)

-- what is 0 or 1 everywhere is 0 as often as its sum leaves
zeros : (f : ℕ → ℕ) (n : ℕ) → ((p : ℕ) → p < n → f p ≤ 1) → count_below (λ p. eqb (f p) 0) n + sum_below f n ≡ n
zeros f zero h = refl
zeros f (suc n) h = omega (arith, at_one (f n) (h n (omega arith)), zeros f n (λ p l. h p (omega arith)))
  where
    at_one : (x : ℕ) → x ≤ 1 → one (eqb x 0) + x ≡ 1
    at_one zero l = refl
    at_one (suc zero) l = refl
    at_one (suc (suc x)) l = absurd (omega arith)

one_few : (b : Bool) → one b ≤ 1
one_few true = lit≤ tt
one_few false = lit≤ tt

pilots_few : (kind : SegmentKind) (phase p : ℕ) → pilots kind phase p ≤ 1
pilots_few Coherent phase p = omega (arith, one_few (is_sp Coherent phase p))
pilots_few Differential phase p = omega (arith, one_few (is_cp Differential p))

module _ (mode : Mode) (xs : List ℕ) (tested : fits mode xs ≡ true) where
  all_inside : inside mode xs ≡ true
  all_inside = both_left (inside mode xs) (is_row xs) tested

  is_row_lem : is_row xs ≡ true
  is_row_lem = both_right (inside mode xs) (is_row xs) tested

  below : (i : ℕ) → i < length xs → get_or xs i 0 < carriers_per_segment mode
  below i h = ltb-true _ _ (all_in_at (λ x. ltb x (carriers_per_segment mode)) xs all_inside i h)

  few : length xs ≤ 20
  few = leb-true _ _ (both_left (short xs) (ascends 0 xs) is_row_lem)

  ascending : Ascending xs
  ascending = ascends_true 0 xs (both_right (short xs) (ascends 0 xs) is_row_lem)

module _ (mode : Mode) (kind : SegmentKind) (row : ℕ) (in_table : row < 13) where
  row_tested : fits_test mode kind row ≡ true
  row_tested = all_below_at (fits_test mode kind) 13 (rows_tested mode kind) row in_table

  tmcc_fits : fits mode (tmcc_of mode kind row) ≡ true
  tmcc_fits = both_left (fits mode (tmcc_of mode kind row)) (others_test mode kind row) row_tested

  others_fit : others_test mode kind row ≡ true
  others_fit = both_right (fits mode (tmcc_of mode kind row)) (others_test mode kind row) row_tested

  ac1_fits : fits mode (ac1_of mode kind row) ≡ true
  ac1_fits = both_left (fits mode (ac1_of mode kind row)) (fits mode (ac2_of mode kind row)) others_fit

  ac2_fits : fits mode (ac2_of mode kind row) ≡ true
  ac2_fits = both_right (fits mode (ac1_of mode kind row)) (fits mode (ac2_of mode kind row)) others_fit

  -- every TMCC, AC1 and AC2 carrier lies in the segment
  pub entries_below : all_in (λ x. ltb x (carriers_per_segment mode)) (entries_of mode kind row) ≡ true
  entries_below =
      rw (
        all_in_append (λ x. ltb x (carriers_per_segment mode)) (tmcc_of mode kind row) (ac1_of mode kind row ++ ac2_of mode kind row),
        all_in_append (λ x. ltb x (carriers_per_segment mode)) (ac1_of mode kind row) (ac2_of mode kind row),
        all_inside mode (tmcc_of mode kind row) tmcc_fits,
        all_inside mode (ac1_of mode kind row) ac1_fits,
        all_inside mode (ac2_of mode kind row) ac2_fits,
      )

  pub tmcc_below : (i : ℕ) → i < length (tmcc_of mode kind row) → get_or (tmcc_of mode kind row) i 0 < carriers_per_segment mode
  tmcc_below = below mode (tmcc_of mode kind row) tmcc_fits

  pub ac1_below : (i : ℕ) → i < length (ac1_of mode kind row) → get_or (ac1_of mode kind row) i 0 < carriers_per_segment mode
  ac1_below = below mode (ac1_of mode kind row) ac1_fits

  pub ac2_below : (i : ℕ) → i < length (ac2_of mode kind row) → get_or (ac2_of mode kind row) i 0 < carriers_per_segment mode
  ac2_below = below mode (ac2_of mode kind row) ac2_fits

  -- no list has more than twenty entries
  pub tmcc_short : length (tmcc_of mode kind row) ≤ 20
  tmcc_short = few mode (tmcc_of mode kind row) tmcc_fits

  pub ac1_short : length (ac1_of mode kind row) ≤ 20
  ac1_short = few mode (ac1_of mode kind row) ac1_fits

  pub ac2_short : length (ac2_of mode kind row) ≤ 20
  ac2_short = few mode (ac2_of mode kind row) ac2_fits

  -- every list ascends
  pub tmcc_ascending : Ascending (tmcc_of mode kind row)
  tmcc_ascending = ascending mode (tmcc_of mode kind row) tmcc_fits

  pub ac1_ascending : Ascending (ac1_of mode kind row)
  ac1_ascending = ascending mode (ac1_of mode kind row) ac1_fits

  pub ac2_ascending : Ascending (ac2_of mode kind row)
  ac2_ascending = ascending mode (ac2_of mode kind row) ac2_fits

claims_tested : (mode : Mode) (kind : SegmentKind) (row phase : ℕ) → row < 13 → phase < 4 → claims_test mode kind row phase ≡ true
claims_tested mode Coherent row phase r ph =
    all_below_at (claims_test mode Coherent row) 4
    (all_below_at (λ row. all_below (claims_test mode Coherent row) 4) 13 (coherent_tested mode) row r) phase ph
claims_tested mode Differential row phase r ph =
    all_below_at (λ row. claims_test mode Differential row 0) 13 (differential_tested mode) row r

module _ (mode : Mode) (kind : SegmentKind) (row phase : ℕ) (in_table : row < 13) (in_cycle : phase < 4) where
  abbrev entries : List ℕ
  entries = entries_of mode kind row

  tested : claims_test mode kind row phase ≡ true
  tested = claims_tested mode kind row phase in_table in_cycle

  once : (p : ℕ) → pilots kind phase p + occurs p entries ≤ 1
  once p =
      ⊎_elim (λ absent. omega (arith, pilots_few kind phase p))
      (λ passes. omega (arith, eqb-true (pilots kind phase p + occurs p entries) 1 passes))
      (absent_or_passes (λ x. eqb (pilots kind phase x + occurs x entries) 1) entries
      (both_left (once_test kind phase entries) (size_test mode kind phase entries) tested) p)

  claims_are : (p : ℕ) → claims mode kind row phase p ≡ pilots kind phase p + occurs p entries
  unfolding claims
  claims_are p =
      let few = once p in
      let all = occurs_append p (tmcc_of mode kind row) (ac1_of mode kind row ++ ac2_of mode kind row) in
      let others = occurs_append p (ac1_of mode kind row) (ac2_of mode kind row) in
      omega (
        arith,
        memb_occurs p (tmcc_of mode kind row) (omega arith),
        memb_occurs p (ac1_of mode kind row) (omega arith),
        memb_occurs p (ac2_of mode kind row) (omega arith),
      )

  -- no two roles of a segment meet
  pub apart : (p : ℕ) → p < carriers_per_segment mode → claims mode kind row phase p ≤ 1
  apart p h = rw claims_are (once p)

  sum_of_claims : sum_below (claims mode kind row phase) (carriers_per_segment mode)
      ≡ sum_below (pilots kind phase) (carriers_per_segment mode) + length entries
  sum_of_claims =
      rw (
        sum_same (claims mode kind row phase) (λ p. pilots kind phase p + occurs p entries) (carriers_per_segment mode) claims_are,
        sum_add (pilots kind phase) (λ p. occurs p entries) (carriers_per_segment mode),
        sum_occurs (carriers_per_segment mode) entries (entries_below mode kind row in_table),
      )

  -- the places that no role claims are as many as the segment's data carriers
  pub full : count_below (λ p. eqb (claims mode kind row phase p) 0) (carriers_per_segment mode) ≡ data_carriers_per_segment mode
  full =
      omega (
        arith,
        zeros (claims mode kind row phase) (carriers_per_segment mode) apart,
        sum_of_claims,
        eqb-true (sum_below (pilots kind phase) (carriers_per_segment mode) + length entries + data_carriers_per_segment mode)
            (carriers_per_segment mode) (both_right (once_test kind phase entries) (size_test mode kind phase entries) tested),
      )
