-- The carrier tables compared with each other: the rows of modes 2 and 3 are those of mode 1 laid end to end, and both kinds of segment
-- have the same AC1.
-- Assumes nothing.
use Rattle.std.specs.Prelude.{ℕ, zero, suc, ◌+◌, ◌*◌, ◌%◌, ◌<◌, Bool, true, false, cond, List, [], ◌∷◌, ◌++◌, ◌≡◌, refl, get_or}
use Rattle.lists.specs.Tests.{values, agree}
use Rattle.params.specs.declared.Mode.{Mode}
use Rattle.params.specs.declared.Mode.TheVariants.{M1, M2, M3}
use Rattle.tables.specs.Rows.{diff_ac1, diff_ac2, diff_tmcc, coh_ac1, coh_tmcc}
use Rattle.ofdm.specs.Band.{segment_at}

-- the entries of a part of a segment that starts at the place `start`
abbrev pub raised : ℕ → List ℕ → List ℕ
raised start [] = []
raised start (x ∷ xs) = (start + x) ∷ raised start xs

-- the start of part n, of 108 places each, but not that of the first
abbrev pub inner_start : ℕ → List ℕ
inner_start zero = []
inner_start (suc n) = (108 * suc n) ∷ []

-- n rows of mode 1 laid end to end, those of the places from `place` upward, round the band; `starts` says whether with the inner starts
abbrev pub laid : List (List ℕ) → Bool → ℕ → ℕ → List ℕ
laid rows starts place zero = []
laid rows starts place (suc n) =
    laid rows starts place n
    ++ (cond starts (inner_start n) [] ++ raised (108 * n) (get_or rows (segment_at ((place + n) % 13)) []))

-- how many segments of mode 1 are as wide as one of the mode
abbrev pub scale : Mode → ℕ
scale M1 = 1
scale M2 = 2
scale M3 = 4

-- a table's row of the segment at a place of the band is laid of its rows of mode 1
abbrev pub IsLaid : (Mode → List (List ℕ)) → Bool → Mode → ℕ → Type 0
IsLaid rows starts mode place =
    get_or (rows mode) (segment_at place) [] ≡ laid (rows M1) starts (place * scale mode) (scale mode)

abbrev listed : Mode → ℕ → List (List ℕ)
listed mode place = row diff_tmcc ∷ row diff_ac1 ∷ row diff_ac2 ∷ row coh_tmcc ∷ row coh_ac1 ∷ []
  where
    row : (Mode → List (List ℕ)) → List ℕ
    row rows = get_or (rows mode) (segment_at place) []

abbrev made : Mode → ℕ → List (List ℕ)
made mode place = row diff_tmcc false ∷ row diff_ac1 false ∷ row diff_ac2 true ∷ row coh_tmcc false ∷ row coh_ac1 false ∷ []
  where
    row : (Mode → List (List ℕ)) → Bool → List ℕ
    row rows starts = laid (rows M1) starts (place * scale mode) (scale mode)

rows_tested : (mode : Mode) → values (listed mode) 13 ≡ values (made mode) 13
rows_tested M1 = refl
rows_tested M2 = refl
rows_tested M3 = refl

-- each row of modes 2 and 3 is two or four rows of mode 1 laid end to end; AC2 also takes the inner starts, where mode 1 has its continual
-- pilot
pub rows_laid : (mode : Mode) (place : ℕ) → place < 13
    → IsLaid diff_tmcc false mode place × IsLaid diff_ac1 false mode place × IsLaid diff_ac2 true mode place
    × IsLaid coh_tmcc false mode place × IsLaid coh_ac1 false mode place
rows_laid mode place h =
    let e : listed mode place ≡ made mode place = agree (listed mode) (made mode) 13 (rows_tested mode) place h in
    (cc, cc, cc, cc, cc)

-- coherent and differential segments have the same AC1
pub ac1_alike : (mode : Mode) → coh_ac1 mode ≡ diff_ac1 mode
ac1_alike M1 = refl
ac1_alike M2 = refl
ac1_alike M3 = refl
