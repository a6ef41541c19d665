-- The counts of each role in a segment are those of its mode and kind, as antt computes over every row of the tables and every phase.
-- Assumes nothing.
use Rattle.std.specs.Prelude.{ℕ, zero, suc, ◌+◌, ◌*◌, ◌≤◌, ◌<◌, Bool, true, false, cond, List, [], ◌∷◌, ◌++◌, ◌≡◌, refl, eqb, length}
use Rattle.std.proofs.Common.{sym, ◌∙◌, arith, eqb-true, lit≤}
use Rattle.lists.specs.Lists.{up_to, select}
use Rattle.lists.specs.Select.{length_up_to}
use Rattle.lists.specs.Tests.{all_below, memb, all_below_at}
use Rattle.params.specs.declared.Mode.{Mode}
use Rattle.params.specs.declared.Mode.TheVariants.{M1, M2, M3}
use Rattle.params.specs.declared.SegmentKind.{SegmentKind}
use Rattle.params.specs.declared.SegmentKind.TheVariants.{Coherent, Differential}
use Rattle.params.specs.Params.{carriers_per_segment}
use Rattle.params.specs.Laws.{sized}
use Rattle.tables.specs.Places.{tmcc_of, ac1_of, ac2_of, is_sp, is_cp}
use Rattle.frame.specs.declared.AcKind.TheVariants.{Ac1, Ac2}
use Rattle.frame.specs.declared.CarrierRole.{CarrierRole}
use Rattle.frame.specs.declared.CarrierRole.TheVariants.{Data, Sp, Cp, Tmcc, Ac, EdgeCp}
use Rattle.frame.specs.Roles.{role_byte, first_claim, place_role, segment_roles}
use Rattle.role_counts.specs.declared.KindCounts.{KindCounts}
use Rattle.role_counts.specs.Counts.{count_role, kind_counts, Few, few}

-- a role's mark, of which less than a thousand of one role never reach the next's
abbrev mark : CarrierRole → ℕ
mark Data = 1
mark Sp = 1000
mark Cp = 1000000
mark Tmcc = 1000000000
mark (Ac Ac1) = 1000000000000
mark (Ac Ac2) = 1000000000000000
mark EdgeCp = 1000000000000000000

abbrev marks : (ℕ → CarrierRole) → ℕ → ℕ
marks f zero = 0
marks f (suc n) = mark (f n) + marks f n

abbrev marks_of : KindCounts → ℕ
marks_of k = k.«data» * mark Data + (k.sp * mark Sp + (k.cp * mark Cp + (k.tmcc * mark Tmcc + (k.ac1 * mark (Ac Ac1) + k.ac2 * mark (Ac Ac2)))))

-- a place's role, with the row's lists looked up once for all places
abbrev role_in : SegmentKind → ℕ → List ℕ → List ℕ → List ℕ → ℕ → CarrierRole
role_in kind phase tmcc ac1 ac2 p = first_claim (is_sp kind phase p) (is_cp kind p) (memb p tmcc) (memb p ac1) (memb p ac2)

abbrev counts_test : Mode → SegmentKind → ℕ → ℕ → Bool
counts_test mode kind row phase =
    eqb (marks (role_in kind phase (tmcc_of mode kind row) (ac1_of mode kind row) (ac2_of mode kind row)) (carriers_per_segment mode))
    (marks_of (kind_counts mode kind))

coherent_counted : (mode : Mode) → all_below (λ row. all_below (counts_test mode Coherent row) 4) 13 ≡ true
coherent_counted M1 = refl
coherent_counted M2 = refl
coherent_counted M3 = refl

-- what a place of a differential segment is does not depend on the phase
differential_counted : (mode : Mode) → all_below (λ row. counts_test mode Differential row 0) 13 ≡ true
differential_counted M1 = refl
differential_counted M2 = refl
differential_counted M3 = refl

-- one entry more of a list that is counted
select_more : (p : ℕ → Bool) (xs : List ℕ) (x : ℕ) → length (select p (xs ++ (x ∷ []))) ≡ length (select p xs) + cond (p x) 1 0
select_more p [] x = by (p x)
  where
    by : (b : Bool) → length (cond b (x ∷ []) []) ≡ 0 + cond b 1 0
    by true = refl
    by false = refl
select_more p (y ∷ xs) x = by (p y) (select_more p xs x)
  where
    by : (b : Bool) → length (select p (xs ++ (x ∷ []))) ≡ length (select p xs) + cond (p x) 1 0
        → length (cond b (y ∷ select p (xs ++ (x ∷ []))) (select p (xs ++ (x ∷ [])))) ≡ length (cond b (y ∷ select p xs) (select p xs)) + cond (p x) 1 0
    by true e = omega arith
    by false e = e

select_few : (p : ℕ → Bool) (xs : List ℕ) → length (select p xs) ≤ length xs
select_few p [] = lit≤ tt
select_few p (x ∷ xs) = by (p x) (select_few p xs)
  where
    by : (b : Bool) → length (select p xs) ≤ length xs → length (cond b (x ∷ select p xs) (select p xs)) ≤ suc (length xs)
    by true h = omega arith
    by false h = omega arith

-- two numbers below a thousand in front of thousands
digit : (c k a b : ℕ) → c < 1000 → k < 1000 → c + 1000 * a ≡ k + 1000 * b → (c ≡ k) × (a ≡ b)
digit c k a b h l e = (omega arith, omega arith)

-- seven counts in one number, and one carrier more
abbrev packed : ℕ → ℕ → ℕ → ℕ → ℕ → ℕ → ℕ → ℕ
packed d s c t a b e = d + 1000 * (s + 1000 * (c + 1000 * (t + 1000 * (a + 1000 * (b + 1000 * e)))))

abbrev is_role : CarrierRole → CarrierRole → ℕ
is_role r q = cond (eqb (role_byte r) (role_byte q)) 1 0

packed_more : (r : CarrierRole) (m d s c t a b e : ℕ) → m ≡ packed d s c t a b e
    → mark r + m
    ≡ packed (d + is_role r Data) (s + is_role r Sp) (c + is_role r Cp) (t + is_role r Tmcc)
    (a + is_role r (Ac Ac1)) (b + is_role r (Ac Ac2)) (e + is_role r EdgeCp)
packed_more Data m d s c t a b e h = omega arith
packed_more Sp m d s c t a b e h = omega arith
packed_more Cp m d s c t a b e h = omega arith
packed_more Tmcc m d s c t a b e h = omega arith
packed_more (Ac Ac1) m d s c t a b e h = omega arith
packed_more (Ac Ac2) m d s c t a b e h = omega arith
packed_more EdgeCp m d s c t a b e h = omega arith

module _ (f : ℕ → CarrierRole) where
  abbrev roles_up : ℕ → List ℕ
  roles_up n = up_to (λ p. role_byte (f p)) n

  abbrev many_of : CarrierRole → ℕ → ℕ
  many_of r n = count_role r (roles_up n)

  many_more : (r : CarrierRole) (n : ℕ) → many_of r (suc n) ≡ many_of r n + is_role (f n) r
  many_more r n = select_more (λ b. eqb b (role_byte r)) (roles_up n) (role_byte (f n))

  many_few : (r : CarrierRole) (n : ℕ) → n ≤ 999 → many_of r n < 1000
  many_few r n h = omega (arith, select_few (λ b. eqb b (role_byte r)) (roles_up n), length_up_to (λ p. role_byte (f p)) n)

  -- the marks are the counts
  marks_packed : (n : ℕ)
      → marks f n
      ≡ packed (many_of Data n) (many_of Sp n) (many_of Cp n) (many_of Tmcc n) (many_of (Ac Ac1) n) (many_of (Ac Ac2) n) (many_of EdgeCp n)
  marks_packed zero = refl
  marks_packed (suc n) =
      rw (many_more Data n, many_more Sp n, many_more Cp n, many_more Tmcc n, many_more (Ac Ac1) n, many_more (Ac Ac2) n, many_more EdgeCp n)
      (packed_more (f n) (marks f n) (many_of Data n) (many_of Sp n) (many_of Cp n) (many_of Tmcc n) (many_of (Ac Ac1) n) (many_of (Ac Ac2) n)
      (many_of EdgeCp n)
      (marks_packed n))

-- the counts of a segment's roles are those of its mode and kind
pub record Counted (roles : List ℕ) (k : KindCounts) : Type 0 where
  pub «data» : count_role Data roles ≡ k.«data»
  pub sp : count_role Sp roles ≡ k.sp
  pub cp : count_role Cp roles ≡ k.cp
  pub tmcc : count_role Tmcc roles ≡ k.tmcc
  pub ac1 : count_role (Ac Ac1) roles ≡ k.ac1
  pub ac2 : count_role (Ac Ac2) roles ≡ k.ac2

-- two numbers that hold the same counts
module _ (d s c t a b e : ℕ) (k : KindCounts) (l : Few k) where
  unpacked : d < 1000 → s < 1000 → c < 1000 → t < 1000 → a < 1000 → b < 1000 → packed d s c t a b e ≡ marks_of k
      → (d ≡ k.«data») × (s ≡ k.sp) × (c ≡ k.cp) × (t ≡ k.tmcc) × (a ≡ k.ac1) × (b ≡ k.ac2)
  unpacked hd hs hc ht ha hb w =
      -- what stands above each digit, of the counts and of the kind's
      let ua = b + 1000 * e in
      let ut = a + 1000 * ua in
      let uc = t + 1000 * ut in
      let us = c + 1000 * uc in
      let ud = s + 1000 * us in
      let vt = k.ac1 + 1000 * k.ac2 in
      let vc = k.tmcc + 1000 * vt in
      let vs = k.cp + 1000 * vc in
      let vd = k.sp + 1000 * vs in
      let wd = digit d k.«data» ud vd hd (omega arith) (omega arith) in
      let ws = digit s k.sp us vs hs (omega arith) wd.1 in
      let wc = digit c k.cp uc vc hc (omega arith) ws.1 in
      let wt = digit t k.tmcc ut vt ht (omega arith) wc.1 in
      let wa = digit a k.ac1 ua k.ac2 ha (omega arith) wt.1 in
      let wb = digit b k.ac2 e 0 hb (omega arith) (omega (arith, wa.1)) in
      (wd.0, ws.0, wc.0, wt.0, wa.0, wb.0)

told : (f : ℕ → CarrierRole) (n : ℕ) (k : KindCounts) → n ≤ 999 → Few k → marks f n ≡ marks_of k → Counted (roles_up f n) k
told f n k h l e =
    let w = unpacked (many_of f Data n) (many_of f Sp n) (many_of f Cp n) (many_of f Tmcc n) (many_of f (Ac Ac1) n) (many_of f (Ac Ac2) n)
    (many_of f EdgeCp n) k l
    (many_few f Data n h) (many_few f Sp n h) (many_few f Cp n h) (many_few f Tmcc n h) (many_few f (Ac Ac1) n h) (many_few f (Ac Ac2) n h)
    (sym (marks_packed f n) ∙ e) in
    record { «data» = w.0; sp = w.1; cp = w.2; tmcc = w.3; ac1 = w.4; ac2 = w.5 }

counts_tested : (mode : Mode) (kind : SegmentKind) (row phase : ℕ) → row < 13 → phase < 4 → counts_test mode kind row phase ≡ true
counts_tested mode Coherent row phase r p =
    all_below_at (counts_test mode Coherent row) 4 (all_below_at (λ row. all_below (counts_test mode Coherent row) 4) 13 (coherent_counted mode) row r) phase p
counts_tested mode Differential row phase r p = all_below_at (λ row. counts_test mode Differential row 0) 13 (differential_counted mode) row r

pub segment_counted : (mode : Mode) (kind : SegmentKind) (row phase : ℕ) → row < 13 → phase < 4
    → Counted (segment_roles mode phase (record { row = row; kind = kind })) (kind_counts mode kind)
unfolding segment_roles place_role
segment_counted mode kind row phase r p =
    told (role_in kind phase (tmcc_of mode kind row) (ac1_of mode kind row) (ac2_of mode kind row)) (carriers_per_segment mode) (kind_counts mode kind)
    (omega (arith, (sized mode).carriers_high)) (few mode kind) (eqb-true _ _ (counts_tested mode kind row phase r p))
