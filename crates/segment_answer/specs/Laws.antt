-- The line of a segment in its pieces, for any kinds and for a question's bytes, and the cases of a line's answer.
-- Assumes nothing.
use Rattle.std.specs.Prelude.{ℕ, ◌+◌, ◌*◌, ◌-◌, ◌≤◌, ◌<◌, List, ◌∷◌, ◌++◌, ◌≡◌, length, get_or, Option}
use Rattle.std.proofs.Common.{append_assoc, sym, arith, eq-eqb, ne_eqb}
use Rattle.params.specs.declared.Mode.{Mode}
use Rattle.params.specs.declared.SegmentKind.{SegmentKind}
use Rattle.params.specs.Params.{carriers_per_segment, kind_from}
use Rattle.ofdm.specs.Band.{segment_at}
use Rattle.ofdm.specs.Laws.{segment_below}
use Rattle.frame.specs.Roles.{segment_roles}
use Rattle.role_counts.specs.Counts.{kind_counts}
use Rattle.counted_roles.specs.CountedRoles.{segment_counted}
use Rattle.text.specs.Decimal.{field}
use Rattle.question.specs.Question.{mode_asked, phase_asked, kinds_asked, line_code, Answered}
use Rattle.question.specs.Laws.{question_letter, kind_asked, other_code, no_question}
use Rattle.segment_answer.specs.Answer.{counts, segment_line, refused_line, list_lines, line_answer}
use Rattle.segment_answer.specs.Pieces.{three, line_at, line_head, counts_line}

regroup : (a b c d : List ℕ) → (a ++ (b ++ c)) ++ d ≡ a ++ (b ++ (c ++ d))
regroup a b c d = simp append_assoc

-- the text of a segment's counts is that of its mode and kind
pub counts_line_lem : (mode : Mode) (kind : SegmentKind) (row phase : ℕ) → row < 13 → phase < 4
    → counts (segment_roles mode phase (record { row = row; kind = kind })) ≡ counts_line (kind_counts mode kind)
counts_line_lem mode kind row phase r p =
    let c = segment_counted mode kind row phase r p in
    let k = kind_counts mode kind in
    rw (c.«data», c.sp, c.cp, c.tmcc, c.ac1, c.ac2)
    (sym (regroup (field k.«data») (field k.sp) (field k.cp) (three k.tmcc k.ac1 k.ac2 10)))

-- the line of a segment is its head and its counts, whatever the kinds are
pub segment_line_parts : (mode : Mode) (phase : ℕ) (kinds : List ℕ) (place : ℕ) → phase < 4 → place < 13
    → segment_line mode phase kinds place
    ≡ line_head place (segment_at place) (67 + get_or kinds (segment_at place) 0) (place * carriers_per_segment mode)
    ++ counts_line (kind_counts mode (kind_from (get_or kinds (segment_at place) 0)))
unfolding segment_line
segment_line_parts mode phase kinds place p h =
    rw (counts_line_lem mode (kind_from (get_or kinds (segment_at place) 0)) (segment_at place) phase (segment_below place h) p)
    (sym (regroup (field place) (field (segment_at place)) ((67 + get_or kinds (segment_at place) 0) ∷ 44 ∷ field (place * carriers_per_segment mode))
    (counts_line (kind_counts mode (kind_from (get_or kinds (segment_at place) 0))))))

-- and for a question it shows the letters that were asked
pub line_parts : (mode : Mode) (s : List ℕ) (place : ℕ) → Answered s → place < 13
    → line_at mode s place ≡ line_head place (segment_at place) (get_or s (4 + segment_at place) 0) (place * carriers_per_segment mode)
    ++ counts_line (kind_counts mode (kind_from (get_or s (4 + segment_at place) 0 - 67)))
line_parts mode s place a h =
    let seg = segment_at place in
    let low : 67 ≤ get_or s (4 + seg) 0 = question_letter s a.question seg (segment_below place h) in
    let shown : 67 + (get_or s (4 + seg) 0 - 67) ≡ get_or s (4 + seg) 0 = omega arith in
    rw (kind_asked s seg, shown) at (segment_line_parts mode (phase_asked s) (kinds_asked s) place a.phase h)

-- the answer to a line that is refused, and to one that is not
pub refused_answer : (s : List ℕ) (code : ℕ) → code ≡ line_code s → (code ≡ 0 → ⊥) → line_answer s ≡ refused_line code
unfolding line_answer
refused_answer s code e h = rw (← e, ne_eqb code 0 h)

pub list_answer : (s : List ℕ) (code : ℕ) (m : Option Mode) → code ≡ line_code s → code ≡ 0 → mode_asked s ≡ m
    → line_answer s ≡ list_lines m (phase_asked s) (kinds_asked s)
unfolding line_answer
list_answer s code m e z q = rw (← e, eq-eqb code 0 z, q)

-- a line of any other length is no question
pub other_length : (s : List ℕ) → (length s ≡ 17 → ⊥) → line_answer s ≡ refused_line 11
other_length s h = refused_answer s 11 (sym (other_code s (no_question s h))) (λ e. omega arith)
