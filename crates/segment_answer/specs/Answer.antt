-- The segment list of document 01: what is printed for a line of the input, as bytes.
-- Definitions only.
use Rattle.std.specs.Prelude.{ℕ, ◌+◌, ◌*◌, ◌-◌, cond, List, [], ◌∷◌, ◌++◌, eqb, length, get_or, Option, Some, None}
use Rattle.lists.specs.Lists.{joined, range}
use Rattle.params.specs.declared.Mode.{Mode}
use Rattle.params.specs.Params.{carriers_per_segment, total_carriers}
use Rattle.ofdm.specs.Band.{segment_at}
use Rattle.frame.specs.declared.AcKind.TheVariants.{Ac1, Ac2}
use Rattle.frame.specs.declared.CarrierRole.TheVariants.{Data, Sp, Cp, Tmcc, Ac}
use Rattle.frame.specs.Roles.{segment_roles, wide_segment}
use Rattle.role_counts.specs.Counts.{count_role}
use Rattle.text.specs.Decimal.{decimal, field}
use Rattle.question.specs.Question.{mode_asked, phase_asked, kinds_asked, line_code}

-- bytes: comma 44, digits from 48, C 67, E 69, line feed 10
-- the counts of data, SP, CP, TMCC, AC1 and AC2, and the line's end
abbrev pub counts : List ℕ → List ℕ
counts roles =
    field (count_role Data roles) ++ (field (count_role Sp roles) ++ (field (count_role Cp roles)
    ++ (field (count_role Tmcc roles) ++ (field (count_role (Ac Ac1) roles) ++ (decimal (count_role (Ac Ac2) roles) ++ (10 ∷ []))))))

-- the line of a segment: place, segment, kind, first carrier, counts
unfoldable pub segment_line : Mode → ℕ → List ℕ → ℕ → List ℕ
segment_line mode phase kinds place =
    field place ++ (field (segment_at place) ++ ((67 + get_or kinds (segment_at place) 0) ∷ 44 ∷ field (place * carriers_per_segment mode)
    ++ counts (segment_roles mode phase (wide_segment kinds (segment_at place)))))

-- the line of the edge: 13,E,E, its carrier, and six zeros
unfoldable pub edge_line : Mode → List ℕ
edge_line mode =
    49 ∷ 51 ∷ 44 ∷ 69 ∷ 44 ∷ 69 ∷ 44 ∷ (field (total_carriers mode - 1) ++ (48 ∷ 44 ∷ 48 ∷ 44 ∷ 48 ∷ 44 ∷ 48 ∷ 44 ∷ 48 ∷ 44 ∷ 48 ∷ 10 ∷ []))

-- `refused,` and the number
unfoldable pub refused_line : ℕ → List ℕ
refused_line code = 114 ∷ 101 ∷ 102 ∷ 117 ∷ 115 ∷ 101 ∷ 100 ∷ 44 ∷ (decimal code ++ (10 ∷ []))

-- the fourteen lines of a question that is answered
unfoldable pub list_lines : Option Mode → ℕ → List ℕ → List ℕ
list_lines None phase kinds = []
list_lines (Some m) phase kinds = joined (segment_line m phase kinds) (range 13) ++ edge_line m

-- what is printed for a line, without its line feed
unfoldable pub line_answer : List ℕ → List ℕ
line_answer s = cond (eqb (line_code s) 0) (list_lines (mode_asked s) (phase_asked s) (kinds_asked s)) (refused_line (line_code s))

-- the last line may lack its line feed; where nothing follows the last line feed, nothing more is printed
unfoldable pub last_answer : List ℕ → List ℕ
last_answer s = cond (eqb (length s) 0) [] (line_answer s)
