-- Input that comes in pieces prints what it prints in one; how it may end.
-- Assumes nothing.
use Rattle.std.specs.Prelude.{ℕ, Bool, true, false, cond, List, [], ◌∷◌, ◌++◌, ◌≡◌, refl, eqb, length, take, drop}
use Rattle.std.proofs.Common.{append_assoc, append-nil, sym, ap, ◌∙◌, ne_eqb, take-append-drop}
use Rattle.lists.specs.Lists.{joined}
use Rattle.segment_answer.specs.Answer.{line_answer, last_answer}
use Rattle.segment_list.specs.Prints.{printed, open_after, segments_prints, turns_print}

pub open_pieces : (s xs ys : List ℕ) → open_after s (xs ++ ys) ≡ open_after (open_after s xs) ys
unfolding open_after
open_pieces s [] ys = refl
open_pieces s (b ∷ xs) ys = by (eqb b 10) (open_pieces [] xs ys) (open_pieces (s ++ (b ∷ [])) xs ys)
  where
    by : (e : Bool) → open_after [] (xs ++ ys) ≡ open_after (open_after [] xs) ys
        → open_after (s ++ (b ∷ [])) (xs ++ ys) ≡ open_after (open_after (s ++ (b ∷ [])) xs) ys
        → cond e (open_after [] (xs ++ ys)) (open_after (s ++ (b ∷ [])) (xs ++ ys)) ≡ open_after (cond e (open_after [] xs) (open_after (s ++ (b ∷ [])) xs)) ys
    by true p q = p
    by false p q = q

pub printed_pieces : (s xs ys : List ℕ) → printed s (xs ++ ys) ≡ printed s xs ++ printed (open_after s xs) ys
unfolding printed open_after
printed_pieces s [] ys = refl
printed_pieces s (b ∷ xs) ys = by (eqb b 10) (printed_pieces [] xs ys) (printed_pieces (s ++ (b ∷ [])) xs ys)
  where
    by : (e : Bool) → printed [] (xs ++ ys) ≡ printed [] xs ++ printed (open_after [] xs) ys
        → printed (s ++ (b ∷ [])) (xs ++ ys) ≡ printed (s ++ (b ∷ [])) xs ++ printed (open_after (s ++ (b ∷ [])) xs) ys
        → cond e (line_answer s ++ printed [] (xs ++ ys)) (printed (s ++ (b ∷ [])) (xs ++ ys))
        ≡ cond e (line_answer s ++ printed [] xs) (printed (s ++ (b ∷ [])) xs) ++ printed (cond e (open_after [] xs) (open_after (s ++ (b ∷ [])) xs)) ys
    by true p q = ap (λ (l : List ℕ). line_answer s ++ l) p ∙ sym (append_assoc (line_answer s) (printed [] xs) (printed (open_after [] xs) ys))
    by false p q = q

-- empty input prints nothing
pub prints_nothing : segments_prints [] ≡ []
unfolding segments_prints printed open_after last_answer
prints_nothing = refl

-- the last line may lack its line feed
pub feed_optional : (input : List ℕ) → (length (open_after [] input) ≡ 0 → ⊥) → segments_prints (input ++ (10 ∷ [])) ≡ segments_prints input
unfolding segments_prints printed open_after last_answer
feed_optional input h =
    let s = open_after [] input in
    rw (printed_pieces [] input (10 ∷ []), open_pieces [] input (10 ∷ []), ne_eqb (length s) 0 h, append-nil (line_answer s))
    (append-nil (printed [] input ++ line_answer s))

-- what the first n bytes print comes first
pub prints_front : (input : List ℕ) (n : ℕ)
    → segments_prints input ≡ printed [] (take n input) ++ (printed (open_after [] (take n input)) (drop n input) ++ last_answer (open_after [] input))
unfolding segments_prints
prints_front input n =
    let parts = ap (printed []) (sym (take-append-drop n input)) ∙ printed_pieces [] (take n input) (drop n input) in
    ap (λ (l : List ℕ). l ++ last_answer (open_after [] input)) parts
    ∙ append_assoc (printed [] (take n input)) (printed (open_after [] (take n input)) (drop n input)) (last_answer (open_after [] input))

-- a program that reads in turns, of any number of bytes each, prints what all its input does
turns_from : (s : List ℕ) (turns : List (List ℕ))
    → turns_print s turns ≡ printed s (joined (λ bytes. bytes) turns) ++ last_answer (open_after s (joined (λ bytes. bytes) turns))
unfolding turns_print printed open_after
turns_from s [] = refl
turns_from s (bytes ∷ turns) =
    rw (turns_from (open_after s bytes) turns, printed_pieces s bytes (joined (λ b. b) turns), open_pieces s bytes (joined (λ b. b) turns), append_assoc)

pub turns_print_lem : (turns : List (List ℕ)) → turns_print [] turns ≡ segments_prints (joined (λ bytes. bytes) turns)
unfolding segments_prints
turns_print_lem turns = turns_from [] turns
