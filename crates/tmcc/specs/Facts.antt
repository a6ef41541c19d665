-- What the soft value adds up. With every segment let pass, the carriers are those of role TMCC, ascending; a filter keeps those of them that
-- lie in the segments that pass, in the same order; and a filter that no segment passes gives -0.0. An answer's number is the operation's code.
-- Assumes nothing.
use Prim.Native.Nat.{ℕ, suc, suc-le-suc, ◌+◌, ◌*◌, ◌/◌, ◌≤◌, ◌<◌}
use Rattle.std.specs.Prelude.{Bool, true, false, cond, ◌&&◌, List, [], ◌∷◌, map, ◌≡◌, refl, eqb, leb, ltb, Float, get_or, length, Option, Some, None}
use Rattle.std.proofs.Math.Path.{sym, subst}
use Rattle.std.proofs.Common.{ap, ◌∙◌, arith, eq-eqb, ne_eqb, le-leb, leb-true, ltb-true, lit<, lit≤}
use Rattle.std.proofs.Math.Decide.{dec_lt}
use Rattle.std.proofs.Math.Nat.{zero-add}
use Rattle.std.proofs.Math.Arith.{digits_div}
use Rattle.lists.specs.Refusals.{unless_most}
use Rattle.params.specs.Laws.{answered_code}
use Rattle.frame.specs.Operations.{are_kinds}
use Rattle.ieee.specs.Constants.{minus_zero}
use Rattle.ieee.specs.Sums.{total}
use Rattle.lists.specs.Lists.{up_to, range, joined, select, chosen}
use Rattle.lists.specs.Fill.{joined_same}
use Rattle.lists.specs.Select.{length_up_to, get_or_up_to, select_append}
use Rattle.lists.specs.Tests.{memb, all_below, all_below_at, both_left, both_right}
use Rattle.params.specs.declared.Mode.{Mode}
use Rattle.params.specs.declared.Mode.TheVariants.{M1, M2, M3}
use Rattle.params.specs.declared.SegmentKind.{SegmentKind}
use Rattle.params.specs.declared.SegmentKind.TheVariants.{Coherent, Differential}
use Rattle.params.specs.Params.{carriers_per_segment, kind_from, total_carriers, code_of}
use Rattle.tables.specs.Places.{tmcc_of}
use Rattle.tables.specs.Rule.{tmcc_below}
use Rattle.ofdm.specs.Band.{segment_at, place_of}
use Rattle.ofdm.specs.Laws.{place_of_segment, segment_below}
use Rattle.frame.specs.Roles.{OfdmSegment, role_byte, place_role, segment_roles, band_roles, wide_segment, wide}
use Rattle.frame.specs.declared.CarrierRole.TheVariants.{Tmcc}
use Rattle.frame.specs.Rules.{place_has}
use Rattle.frame.specs.OneRole.{place_has_lem}
use Rattle.frame.specs.BySegment.{by_segment}
use Rattle.tmcc.specs.Tmcc.{passes, place_tmcc, tmcc_carriers, soft_value, two_spectra_code, soft_code, soft_answer}

-- an answer's number is the number that refuses the call, and 0 where nothing does
pub soft_number_lem : (mode : Option Mode) (kinds : List ℕ) (xs : List Float) (filter : ℕ)
    → code_of (soft_answer mode kinds xs filter) ≡ soft_code mode kinds (length xs) filter
unfolding soft_answer soft_code two_spectra_code
soft_number_lem None kinds xs filter = refl
soft_number_lem (Some m) kinds xs filter =
    answered_code (soft_code (Some m) kinds (length xs) filter) _
    (unless_most (are_kinds kinds) 2 _ 11 (lit≤ tt)
    (unless_most (eqb (length xs) (4 * total_carriers m)) 5 _ 11 (lit≤ tt) (unless_most (leb filter 2) 3 0 11 (lit≤ tt) (lit≤ tt))))

-- a filter that no segment passes gives -0.0
pub nothing_passes : (mode : Mode) (kinds : List ℕ) (filter : ℕ) (xs : List Float)
    → ((place : ℕ) → place < 13 → passes filter (kind_from (get_or kinds (segment_at place) 0)) ≡ false)
    → soft_value mode kinds filter xs ≡ minus_zero
unfolding soft_value tmcc_carriers total
nothing_passes mode kinds filter xs h = rw (joined_same (place_tmcc mode kinds filter) (λ place. []) 13 (λ place l. rw (h place l)))

-- ---- a list of places that ascend from low and lie below end
abbrev laid : ℕ → ℕ → List ℕ → Bool
laid low end [] = true
laid low end (x ∷ xs) = (leb low x && ltb x end) && laid (suc x) end xs

record Laid (low end x : ℕ) (xs : List ℕ) : Type 0 where
  low_first : low ≤ x
  below : x < end
  rest : laid (suc x) end xs ≡ true

first_laid : (low end x : ℕ) (xs : List ℕ) → laid low end (x ∷ xs) ≡ true → Laid low end x xs
first_laid low end x xs e =
    let both = both_left (leb low x && ltb x end) (laid (suc x) end xs) e in
    record {
      low_first = leb-true low x (both_left (leb low x) (ltb x end) both);
      below = ltb-true x end (both_right (leb low x) (ltb x end) both);
      rest = both_right (leb low x && ltb x end) (laid (suc x) end xs) e;
    }

not_in : (n low end : ℕ) (xs : List ℕ) → n < low → laid low end xs ≡ true → memb n xs ≡ false
not_in n low end [] h e = refl
not_in n low end (x ∷ xs) h e =
    let l = first_laid low end x xs e in
    rw (ne_eqb x n (λ q. omega arith), not_in n (suc x) end xs (omega arith) l.rest)

-- of entries that stand from place j on, those pass that stand at the places of such a list: they stand there, and nowhere else
module _ (t : ℕ → Bool) (k end : ℕ) where
  chosen_laid : (j s : ℕ) (xs ks : List ℕ) → s ≡ k + j → j + length xs ≡ end → laid j end ks ≡ true
      → ((i : ℕ) → i < length xs → t (get_or xs i 0) ≡ memb (j + i) ks) → chosen t s xs ≡ map (λ p. k + p) ks
  chosen_laid j s [] [] at n e h = refl
  chosen_laid j s [] (a ∷ ks) at n e h = let l = first_laid j end a ks e in absurd (omega arith)
  chosen_laid j s (x ∷ xs) [] at n e h =
      rw (h 0 (omega arith)) (chosen_laid (suc j) (suc s) xs [] (omega arith) (omega arith) refl (λ i l. h (suc i) (suc-le-suc l)))
  chosen_laid j s (x ∷ xs) (a ∷ ks) at n e h =
      by (dec_lt j a) (λ ks' e' h'. chosen_laid (suc j) (suc s) xs ks' (omega arith) (omega arith) e' h')
    where
      l : Laid j end a ks
      l = first_laid j end a ks e

      next : (i : ℕ) → i < length xs → t (get_or xs i 0) ≡ memb (suc j + i) (a ∷ ks)
      next i m = let q : j + suc i ≡ suc j + i = omega arith in subst (λ (z : ℕ). t (get_or xs i 0) ≡ memb z (a ∷ ks)) q (h (suc i) (suc-le-suc m))

      by : Dec (j < a)
          → ((ks' : List ℕ) → laid (suc j) end ks' ≡ true → ((i : ℕ) → i < length xs → t (get_or xs i 0) ≡ memb (suc j + i) ks')
          → chosen t (suc s) xs ≡ map (λ p. k + p) ks')
          → chosen t s (x ∷ xs) ≡ map (λ p. k + p) (a ∷ ks)
      by (yes later) go =
          let e' : laid (suc j) end (a ∷ ks) ≡ true = rw (le-leb (suc j) a later) (rw (le-leb j a l.low_first) at e) in
          rw (h 0 (omega arith), not_in (j + 0) (suc j) end (a ∷ ks) (omega arith) e') (go (a ∷ ks) e' next)
      by (no now) go =
          let here : a ≡ j = omega (arith, l.low_first) in
          let start : s ≡ k + a = omega arith in
          let rest = go ks (rw here at l.rest) (λ i m. next i m ∙ rw (ne_eqb a (suc j + i) (λ q. omega arith))) in
          rw (h 0 (omega arith), eq-eqb a (j + 0) (omega arith), rest, start)

-- ---- one segment
abbrev is_tmcc : ℕ → Bool
is_tmcc role = eqb role 3

-- every row of the tables is such a list
rows_laid : (mode : Mode) (kind : SegmentKind) → all_below (λ row. laid 0 (carriers_per_segment mode) (tmcc_of mode kind row)) 13 ≡ true
rows_laid M1 Coherent = refl
rows_laid M1 Differential = refl
rows_laid M2 Coherent = refl
rows_laid M2 Differential = refl
rows_laid M3 Coherent = refl
rows_laid M3 Differential = refl

module _ (mode : Mode) (s : OfdmSegment) (in_table : s.row < 13) where
  tmcc_place : (p : ℕ) → p < carriers_per_segment mode → is_tmcc (role_byte (place_role mode s 0 p)) ≡ memb p (tmcc_of mode s.kind s.row)
  unfolding place_has
  tmcc_place p h = sym (place_has_lem mode s 0 p Tmcc in_table (lit< tt) h)

  -- the TMCC carriers of a segment whose first carrier is k
  segment_tmcc : (k : ℕ) → chosen is_tmcc k (segment_roles mode 0 s) ≡ map (λ p. k + p) (tmcc_of mode s.kind s.row)
  unfolding segment_roles
  segment_tmcc k =
      let c = carriers_per_segment mode in
      let role : ℕ → ℕ = λ p. role_byte (place_role mode s 0 p) in
      let size = length_up_to role c in
      chosen_laid is_tmcc k c 0 k (up_to role c) (tmcc_of mode s.kind s.row) (omega arith) (zero-add _ ∙ size)
      (all_below_at (λ row. laid 0 c (tmcc_of mode s.kind row)) 13 (rows_laid mode s.kind) s.row in_table)
      (λ i l. let m : i < c = rw size at l in rw (get_or_up_to role c i 0 m, zero-add i) (tmcc_place i m))

-- ---- the band
-- with every segment let pass, the carriers are those of role TMCC, ascending
pub tmcc_by_role : (mode : Mode) (kinds : List ℕ) → tmcc_carriers mode kinds 2 ≡ chosen (λ role. eqb role 3) 0 (band_roles mode 0 (wide kinds))
unfolding tmcc_carriers
tmcc_by_role mode kinds =
    joined_same (place_tmcc mode kinds 2)
    (λ place. chosen is_tmcc (place_of (segment_at place) * carriers_per_segment mode) (segment_roles mode 0 (wide_segment kinds (segment_at place)))) 13
    (λ place h.
    rw (place_of_segment place h)
    (sym (segment_tmcc mode (wide_segment kinds (segment_at place)) (segment_below place h) (place * carriers_per_segment mode))))
    ∙ sym (by_segment is_tmcc refl mode 0 kinds)

-- ---- a filter
select_joined : (q : ℕ → Bool) (f : ℕ → List ℕ) (xs : List ℕ) → select q (joined f xs) ≡ joined (λ x. select q (f x)) xs
select_joined q f [] = refl
select_joined q f (x ∷ xs) = rw (select_append q (f x) (joined f xs), select_joined q f xs)

-- where a test says the same of each, all pass or none
select_alike : (q : ℕ → Bool) (b : Bool) (g : ℕ → ℕ) (xs : List ℕ) → ((i : ℕ) → i < length xs → q (g (get_or xs i 0)) ≡ b)
    → select q (map g xs) ≡ cond b (map g xs) []
select_alike q true g [] h = refl
select_alike q false g [] h = refl
select_alike q true g (x ∷ xs) h = rw (h 0 (omega arith), select_alike q true g xs (λ i l. h (suc i) (suc-le-suc l)))
select_alike q false g (x ∷ xs) h = rw (h 0 (omega arith), select_alike q false g xs (λ i l. h (suc i) (suc-le-suc l)))

-- a filter keeps of them those that lie in segments of its kind: the carrier k lies at the place k / c
pub tmcc_filtered : (mode : Mode) (kinds : List ℕ) (filter : ℕ)
    → tmcc_carriers mode kinds filter
    ≡ select (λ k. passes filter (kind_from (get_or kinds (segment_at (k / carriers_per_segment mode)) 0))) (tmcc_carriers mode kinds 2)
unfolding tmcc_carriers
tmcc_filtered mode kinds filter =
    let c = carriers_per_segment mode in
    let kind : ℕ → SegmentKind = λ place. kind_from (get_or kinds (segment_at place) 0) in
    let test : ℕ → Bool = λ k. passes filter (kind (k / c)) in
    sym
    (select_joined test (place_tmcc mode kinds 2) (range 13)
    ∙ joined_same (λ place. select test (place_tmcc mode kinds 2 place)) (place_tmcc mode kinds filter) 13 (λ place l.
    select_alike test (passes filter (kind place)) (λ p. place * c + p) (tmcc_of mode (kind place) (segment_at place)) (λ i m.
    ap (λ (z : ℕ). passes filter (kind z)) (digits_div place (tmcc_below mode (kind place) (segment_at place) (segment_below place l) i m)))))
