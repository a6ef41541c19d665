-- A segment's pilots, with its rows of the tables marked over them, are its roles: where no two roles meet, the order does not matter.
-- Assumes nothing.
use Prim.Native.Nat.{ℕ, ◌+◌, ◌≤◌, ◌<◌}
use mathlib.Core.Bool.{Bool, true, false, cond}
use mathlib.Core.List.{List}
use mathlib.Core.Path.{◌≡◌, refl, sym, ap, ◌∙◌}
use borrow.Author.Tests.{le-leb, eqb-true}
use lib.Dec.{leb, eqb}
use lib.ListN.{length, get_or}
use lib.Seq.{ext_get_or}
use Rattle.lists.specs.Lists.{up_to}
use Rattle.lists.specs.Tests.{memb}
use Rattle.lists.specs.Truth.{always5_at}
use Rattle.lists.specs.Select.{length_up_to, get_or_up_to}
use Rattle.params.specs.declared.Mode.{Mode}
use Rattle.params.specs.declared.SegmentKind.{SegmentKind}
use Rattle.params.specs.Params.{carriers_per_segment}
use Rattle.tables.specs.Places.{tmcc_of, ac1_of, ac2_of, is_sp, is_cp, one, claims}
use Rattle.tables.specs.Rule.{apart, tmcc_below, ac1_below, ac2_below}
use Rattle.frame.specs.declared.AcKind.TheVariants.{Ac1, Ac2}
use Rattle.frame.specs.declared.CarrierRole.TheVariants.{Tmcc, Ac}
use Rattle.frame.specs.Roles.{OfdmSegment, ofdm_segment, role_byte, first_claim, place_role, segment_roles}
use Rattle.frame.specs.Inner.{pilot_byte, marked, Markable}
use Rattle.frame.proofs.Marked.{length_marked, marked_at}

-- a row of the tables may be marked
markable : {row xs : List ℕ} (out : List ℕ) (n : ℕ) → row ≡ xs → ((i : ℕ) → i < length xs → get_or xs i 0 < n) → length out ≡ n → Markable row out
markable out n same below e = rw same (record { within = λ i h. rw e (below i h) })

-- the byte of a place as the code comes by it, the last row that was marked asked first; of at most one claim the order does not matter
abbrev last_first : Bool → Bool → Bool → Bool → Bool → ℕ
last_first sp cp t a b =
    cond b (role_byte (Ac Ac2)) (cond a (role_byte (Ac Ac1)) (cond t (role_byte Tmcc) (role_byte (first_claim sp cp false false false))))

abbrev order_test : Bool → Bool → Bool → Bool → Bool → Bool
order_test sp cp t a b =
    cond (leb (one sp + (one cp + (one t + (one a + one b)))) 1) (eqb (last_first sp cp t a b) (role_byte (first_claim sp cp t a b))) true

any_order : (sp cp t a b : Bool) → one sp + (one cp + (one t + (one a + one b))) ≤ 1 → last_first sp cp t a b ≡ role_byte (first_claim sp cp t a b)
any_order sp cp t a b h = eqb-true _ _ (rw (le-leb _ _ h) at (always5_at order_test refl sp cp t a b))

module _ (mode : Mode) (s : OfdmSegment) (phase : ℕ) (in_table : s.row < 13) (in_cycle : phase < 4) where
  abbrev pilots : List ℕ
  pilots = up_to (pilot_byte s.kind phase) (carriers_per_segment mode)

  abbrev tmcc : List ℕ
  tmcc = tmcc_of mode s.kind s.row

  abbrev ac1 : List ℕ
  ac1 = ac1_of mode s.kind s.row

  abbrev ac2 : List ℕ
  ac2 = ac2_of mode s.kind s.row

  abbrev marked1 : List ℕ
  marked1 = marked tmcc (role_byte Tmcc) pilots

  abbrev marked2 : List ℕ
  marked2 = marked ac1 (role_byte (Ac Ac1)) marked1

  abbrev marked3 : List ℕ
  marked3 = marked ac2 (role_byte (Ac Ac2)) marked2

  length0 : length pilots ≡ carriers_per_segment mode
  length0 = length_up_to _ (carriers_per_segment mode)

  length1 : length marked1 ≡ carriers_per_segment mode
  length1 = length_marked tmcc _ pilots ∙ length0

  length2 : length marked2 ≡ carriers_per_segment mode
  length2 = length_marked ac1 _ _ ∙ length1

  length3 : length marked3 ≡ carriers_per_segment mode
  length3 = length_marked ac2 _ _ ∙ length2

  rows_marked : marked3 ≡ segment_roles mode phase s
  unfolding segment_roles place_role claims
  rows_marked = ext_get_or 0 _ _ (length3 ∙ sym (length_up_to _ (carriers_per_segment mode))) (λ p h. at p (rw length3 at h))
    where
      at : (p : ℕ) → p < carriers_per_segment mode
          → get_or marked3 p 0 ≡ get_or (up_to (λ q. role_byte (place_role mode s phase q)) (carriers_per_segment mode)) p 0
      at p h =
          rw (
            marked_at ac2 (role_byte (Ac Ac2)) marked2 p (rw length2 h),
            marked_at ac1 (role_byte (Ac Ac1)) marked1 p (rw length1 h),
            marked_at tmcc (role_byte Tmcc) pilots p (rw length0 h),
            get_or_up_to (pilot_byte s.kind phase) (carriers_per_segment mode) p 0 h,
            get_or_up_to (λ q. role_byte (place_role mode s phase q)) (carriers_per_segment mode) p 0 h,
          )
          (any_order (is_sp s.kind phase p) (is_cp s.kind p) (memb p tmcc) (memb p ac1) (memb p ac2)
          (apart mode s.kind s.row phase in_table in_cycle p h))

-- a segment of the tables, a phase, and room for the segment's carriers
pub record InSegment (mode : Mode) (row phase : ℕ) (out : List ℕ) : Type 0 where
  pub row_below : row < 13
  pub phase_below : phase < 4
  pub room : length out ≡ carriers_per_segment mode

-- the four steps of the code, one after the other: each row may be marked, and the last leaves the roles
module _ (mode : Mode) (seg : ℕ) (kind : SegmentKind) (phase : ℕ) (old : List ℕ) (i : InSegment mode seg phase old) where
  module _ (out : List ℕ) (w : out ≡ up_to (pilot_byte kind phase) (length old)) where
    size0 : length out ≡ carriers_per_segment mode
    size0 = ap length w ∙ (length_up_to _ (length old) ∙ i.room)

    module _ (r1 : List ℕ) (l1 : r1 ≡ tmcc_of mode kind seg) where
      pub tmcc_markable : Markable r1 out
      tmcc_markable = markable _ _ l1 (tmcc_below mode kind seg i.row_below) size0

      module _ (out1 : List ℕ) (m1 : out1 ≡ marked r1 (role_byte Tmcc) out) where
        size1 : length out1 ≡ carriers_per_segment mode
        size1 = ap length m1 ∙ (length_marked _ _ _ ∙ size0)

        module _ (r2 : List ℕ) (l2 : r2 ≡ ac1_of mode kind seg) where
          pub ac1_markable : Markable r2 out1
          ac1_markable = markable _ _ l2 (ac1_below mode kind seg i.row_below) size1

          module _ (out2 : List ℕ) (m2 : out2 ≡ marked r2 (role_byte (Ac Ac1)) out1) where
            module _ (r3 : List ℕ) (l3 : r3 ≡ ac2_of mode kind seg) where
              pub ac2_markable : Markable r3 out2
              ac2_markable =
                  markable _ _ l3 (ac2_below mode kind seg i.row_below)
                  (ap length m2 ∙ (length_marked _ _ _ ∙ size1))

              pub all_marked : (out3 : List ℕ) → out3 ≡ marked r3 (role_byte (Ac Ac2)) out2 → out3 ≡ segment_roles mode phase (ofdm_segment seg kind)
              all_marked out3 m3 =
                  m3
                  ∙ (rw (l3, m2, l2, m1, l1, w, i.room)
                  (rows_marked mode (ofdm_segment seg kind) phase i.row_below i.phase_below))
