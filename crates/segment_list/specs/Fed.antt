-- Bytes that are taken piece by piece do what they do in one; the whole input and then its last line give what `segments` prints.
-- Assumes nothing.
use Rattle.std.specs.Prelude.{ℕ, ◌≤◌, List, [], ◌∷◌, ◌++◌, ◌≡◌, Result, Err, length, take, drop}
use Rattle.std.proofs.Common.{append-nil, sym, ap, subst, ◌∙◌, eq-eqb, ne_eqb, take-append-drop, take_all, take-take}
use Rattle.std.proofs.Math.Seq.{slice}
use Rattle.open_line.specs.declared.Line.{Line}
use Rattle.segment_answer.specs.Answer.{line_answer, last_answer}
use Rattle.segment_list.specs.Prints.{printed, open_after, segments_prints}
use Rattle.open_line.specs.Gather.{Gathers}
use Rattle.text.specs.declared.Cut.{Cut}
use Rattle.text.specs.Put.{Put, PutCut, cut}
use Rattle.text.specs.Laws.{then, put_none, put_as, put_read, cut_as, cut_then, cut_before}
use Rattle.segment_list.specs.Feed.{Leaves, Takes}
use Rattle.segment_list.specs.Printed.{printed_pieces, open_pieces, prints_front}

pub leaves_none : (line : Line) → Leaves line [] line
unfolding open_after
leaves_none line s g = g

pub takes_none : (line : Line) (out : List ℕ) (at : ℕ) → Takes line [] out at line at out
unfolding printed
takes_none line out at = record { prints = λ s g. put_none out at; leaves = leaves_none line }

pub leaves_then : {line line' line'' : Line} (xs ys : List ℕ) → Leaves line xs line' → Leaves line' ys line'' → Leaves line (xs ++ ys) line''
leaves_then {line} {line'} {line''} xs ys p q s g =
    subst (λ (t : List ℕ). Gathers line'' t) (sym (open_pieces s xs ys)) (q (open_after s xs) (p s g))

pub takes_then : {line line' line'' : Line} {xs ys out mid end : List ℕ} {at a r : ℕ} → Takes line xs out at line' a mid → Takes line' ys mid a line'' r end
    → Takes line (xs ++ ys) out at line'' r end
takes_then {line} {line'} {line''} {xs} {ys} p q = record {
  prints = λ s g. put_as (printed_pieces s xs ys) (then (p.prints s g) (q.prints (open_after s xs) (p.leaves s g)));
  leaves = leaves_then {line = line} {line' = line'} {line'' = line''} xs ys p.leaves q.leaves;
}

-- a line feed, and any other byte
pub takes_feed : {line line' : Line} {out end : List ℕ} {at r : ℕ} (b : ℕ) → b ≡ 10
    → ((s : List ℕ) → Gathers line s → Put out at (line_answer s) r end) → Gathers line' [] → Takes line (b ∷ []) out at line' r end
unfolding printed open_after
takes_feed {line} {line'} {out} {end} {at} {r} b e p h = record {
  prints = λ s g. rw (eq-eqb b 10 e, append-nil) (p s g);
  leaves = λ s g. rw (eq-eqb b 10 e) h;
}

pub takes_byte : {line line' : Line} {out : List ℕ} {at : ℕ} (b : ℕ) → (b ≡ 10 → ⊥) → ((s : List ℕ) → Gathers line s → Gathers line' (s ++ (b ∷ [])))
    → Takes line (b ∷ []) out at line' at out
unfolding printed open_after
takes_byte {line} {line'} {out} {at} b e h = record {
  prints = λ s g. rw (ne_eqb b 10 e) (put_none out at);
  leaves = λ s g. rw (ne_eqb b 10 e) (h s g);
}

-- the bytes up to `from` and then a slice
pub take_slice : (input : List ℕ) (from to : ℕ) → from ≤ to → take to input ≡ take from input ++ slice from to input
take_slice input from to h = sym (rw (take-take from to input h) at (take-append-drop from (take to input)))

pub leaves_slice : {line line' line'' : Line} (input : List ℕ) (from to : ℕ) → from ≤ to
    → Leaves line (take from input) line' → Leaves line' (slice from to input) line'' → Leaves line (take to input) line''
leaves_slice {line} {line'} {line''} input from to h p q =
    subst (λ (xs : List ℕ). Leaves line xs line'') (sym (take_slice input from to h))
    (leaves_then {line = line} {line' = line'} {line'' = line''} (take from input) (slice from to input) p q)

pub leaves_all : {line line' : Line} (input : List ℕ) (n : ℕ) → length input ≤ n → Leaves line (take n input) line' → Leaves line input line'
leaves_all {line} {line'} input n h p = subst (λ (xs : List ℕ). Leaves line xs line') (take_all n input h) p

pub takes_slice : {line line' line'' : Line} {out mid end : List ℕ} {at a r : ℕ} (input : List ℕ) (from to : ℕ) → from ≤ to
    → Takes line (take from input) out at line' a mid → Takes line' (slice from to input) mid a line'' r end → Takes line (take to input) out at line'' r end
takes_slice {line} {line'} {line''} {out} {mid} {end} {at} {a} {r} input from to h p q =
    subst (λ (xs : List ℕ). Takes line xs out at line'' r end) (sym (take_slice input from to h)) (takes_then p q)

pub takes_whole : {line line' : Line} {out out' : List ℕ} {at r : ℕ} (input : List ℕ) (n : ℕ) → length input ≤ n
    → Takes line (take n input) out at line' r out' → Takes line input out at line' r out'
takes_whole {line} {line'} {out} {out'} {at} {r} input n h p = subst (λ (xs : List ℕ). Takes line xs out at line' r out') (take_all n input h) p

-- bytes whose text is stored in one buffer and copied to another
pub takes_copied : {line line' : Line} {bytes piece piece' out out' : List ℕ} {at n r : ℕ} → Takes line bytes piece 0 line' n piece' → n ≤ length piece
    → Put out at (take n piece') r out' → Takes line bytes out at line' r out'
takes_copied p h q = record { prints = λ s g. put_as (sym (put_read (p.prints s g) h)) q; leaves = p.leaves }

-- the whole input and then its last line: what `segments` prints
pub takes_all : {line line' : Line} {input out mid end : List ℕ} {at a : ℕ} {r : Result ℕ Cut} → Gathers line []
    → Takes line input out at line' a mid → a ≤ length out → ((s : List ℕ) → Gathers line' s → PutCut mid a (last_answer s) r end)
    → PutCut out at (segments_prints input) r end
unfolding segments_prints
takes_all {line} {line'} {input} g p h q = cut_then (p.prints [] g) h (q (open_after [] input) (p.leaves [] g))

-- the front of the input, and a piece of it that is cut off
pub takes_cut : {line held line' : Line} {piece piece' out mid end : List ℕ} {at a n : ℕ} (input : List ℕ) (from to : ℕ) → from ≤ to → Gathers line []
    → Takes line (take from input) out at held a mid → a ≤ length out → Takes held (slice from to input) piece 0 line' n piece' → n ≤ length piece
    → PutCut mid a (take n piece') (Err cut) end → PutCut out at (segments_prints input) (Err cut) end
takes_cut {line} {held} {line'} {piece} {piece'} {out} {mid} {end} {at} {a} {n} input from to l g p h q m c =
    let s = open_after [] (take from input) in
    let text : take n piece' ≡ printed s (slice from to input) = put_read (q.prints s (p.leaves [] g)) m in
    let parts = ap (printed []) (take_slice input from to l) ∙ printed_pieces [] (take from input) (slice from to input) in
    let rest = printed (open_after [] (take to input)) (drop to input) ++ last_answer (open_after [] input) in
    cut_as (prints_front input to ∙ ap (λ (t : List ℕ). t ++ rest) parts) (cut_before rest (cut_then (p.prints [] g) h (cut_as (sym text) c)))
