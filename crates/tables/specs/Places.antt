-- The places of a segment that carry pilots, TMCC, AC1 and AC2, by mode, kind, row and phase (ARIB STD-B31, Figures 3-29 and 3-30,
-- Tables 3-14 and 3-15).
-- Definitions only.
use Rattle.std.specs.Prelude.{ℕ, ◌+◌, ◌*◌, ◌%◌, Bool, false, cond, List, [], eqb, get_or}
use Rattle.lists.specs.Tests.{memb}
use Rattle.params.specs.declared.Mode.{Mode}
use Rattle.params.specs.declared.SegmentKind.{SegmentKind}
use Rattle.params.specs.declared.SegmentKind.TheVariants.{Coherent, Differential}
use Rattle.tables.specs.Rows.{diff_ac1, diff_ac2, diff_tmcc, coh_ac1, coh_tmcc, prbs_init}

abbrev pub tmcc_of : Mode → SegmentKind → ℕ → List ℕ
tmcc_of mode Coherent row = get_or (coh_tmcc mode) row []
tmcc_of mode Differential row = get_or (diff_tmcc mode) row []

abbrev pub ac1_of : Mode → SegmentKind → ℕ → List ℕ
ac1_of mode Coherent row = get_or (coh_ac1 mode) row []
ac1_of mode Differential row = get_or (diff_ac1 mode) row []

-- a coherent segment has no AC2
abbrev pub ac2_of : Mode → SegmentKind → ℕ → List ℕ
ac2_of mode Coherent row = []
ac2_of mode Differential row = get_or (diff_ac2 mode) row []

-- the sign register's first state, as a number of eleven binary digits
abbrev pub init_of : Mode → ℕ → ℕ
init_of mode row = get_or (prbs_init mode) row 0

-- a scattered pilot of a coherent segment at a phase
abbrev pub is_sp : SegmentKind → ℕ → ℕ → Bool
is_sp Coherent phase p = eqb (p % 12) (3 * phase)
is_sp Differential phase p = false

-- the continual pilot of a differential segment
abbrev pub is_cp : SegmentKind → ℕ → Bool
is_cp Coherent p = false
is_cp Differential p = eqb p 0

abbrev pub one : Bool → ℕ
one b = cond b 1 0

-- how many of SP, CP, TMCC, AC1 and AC2 the place p is
unfoldable pub claims : Mode → SegmentKind → ℕ → ℕ → ℕ → ℕ
claims mode kind row phase p =
    one (is_sp kind phase p) + (one (is_cp kind p)
    + (one (memb p (tmcc_of mode kind row)) + (one (memb p (ac1_of mode kind row)) + one (memb p (ac2_of mode kind row)))))
