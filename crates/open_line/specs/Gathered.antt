-- What a line holds of a text decides the answer to the text; a line with a byte more holds the text with a byte more.
-- Assumes nothing.
use Rattle.std.specs.Prelude.{ℕ, ◌+◌, ◌≤◌, ◌<◌, Bool, cond, List, [], ◌∷◌, ◌++◌, ◌≡◌, ltb, length, take, set}
use Rattle.std.proofs.Math.Bool.{true, false}
use Rattle.std.proofs.Math.Path.{refl}
use Rattle.std.proofs.Common.{sym, ap, ◌∙◌, arith, add-one, length-set, length-append, length-take, take_all, take-suc-set}
use borrow.Author.Tests.{eq-eqb, ne_eqb, eqb-true, eqb-false, ltb-true, ltb-false}
use Rattle.std.proofs.Math.Dec.{eqb}
use Rattle.std.proofs.lemmas.List.{take-append-le}
use Rattle.open_line.specs.declared.Line.{Line}
use Rattle.segment_answer.specs.Answer.{line_answer, last_answer}
use Rattle.segment_answer.specs.Laws.{other_length}
use Rattle.open_line.specs.Gather.{Gathers, new_line, pushed, held_text, held_answer, held_last}

pub gathers_new : Gathers new_line []
gathers_new = record { size = refl; count = refl; held = refl }

-- every line holds a text
pub gathers_own : (line : Line) → length line.bytes ≡ 17 → Gathers line (held_text line)
gathers_own line size = by (ltb line.len 18) refl
  where
    whole : length (line.bytes ++ (0 ∷ [])) ≡ 18
    whole = rw length-append (omega arith)

    by : (b : Bool) → ltb line.len 18 ≡ b → Gathers line (held_text line)
    by true e =
        let few = ltb-true line.len 18 e in
        let same : held_text line ≡ take line.len line.bytes = take-append-le line.len line.bytes (0 ∷ []) (omega arith) in
        let count : length (take line.len line.bytes) ≡ line.len = length-take line.len line.bytes ∙ omega arith in
        rw same record { size = size; count = omega arith; held = sym (take_all 17 (take line.len line.bytes) (omega arith)) }
    by false e =
        let many = ltb-false line.len 18 e in
        let same : held_text line ≡ line.bytes ++ (0 ∷ []) = take_all line.len (line.bytes ++ (0 ∷ [])) (omega (arith, whole)) in
        let kept : take 17 (line.bytes ++ (0 ∷ [])) ≡ line.bytes =
        take-append-le 17 line.bytes (0 ∷ []) (omega arith) ∙ take_all 17 line.bytes (omega arith) in
        rw same record { size = size; count = omega (arith, whole); held = take_all line.len line.bytes (omega arith) ∙ sym kept }

module _ (line : Line) (s : List ℕ) (g : Gathers line s) where
  pub gathers_pushed : (b : ℕ) → Gathers (pushed line b) (s ++ (b ∷ []))
  gathers_pushed b = by (ltb line.len 17) refl
    where
      longer : length (s ++ (b ∷ [])) ≡ length s + 1
      longer = length-append s (b ∷ [])

      kept : line.len < 17 → take (line.len + 1) (set line.bytes line.len b) ≡ take 17 (s ++ (b ∷ []))
      kept h =
          let short : length s ≤ 17 = omega (arith, g.count) in
          let still : length (s ++ (b ∷ [])) ≤ 17 = omega (arith, g.count, longer) in
          rw (add-one, take-suc-set line.bytes line.len b (omega (arith, g.size)), g.held, take_all 17 s short, take_all 17 (s ++ (b ∷ [])) still)

      counted : 17 ≤ line.len → take 18 line.bytes ≡ take 17 (s ++ (b ∷ []))
      counted h =
          let long : 17 ≤ length s = omega (arith, g.count) in
          take_all 18 line.bytes (omega (arith, g.size))
          ∙ (sym (take_all line.len line.bytes (omega (arith, g.size))) ∙ (g.held ∙ sym (take-append-le 17 s (b ∷ []) long)))

      by : (t : Bool) → ltb line.len 17 ≡ t
          → Gathers
          (cond t (record { bytes = set line.bytes line.len b; len = line.len + 1 }) (record { bytes = line.bytes; len = 18 }))
          (s ++ (b ∷ []))
      by true e =
          let few = ltb-true line.len 17 e in
          record { size = length-set line.bytes line.len b ∙ g.size; count = omega (arith, g.count, longer); held = kept few }
      by false e =
          let many = ltb-false line.len 17 e in
          record { size = g.size; count = omega (arith, g.count, longer); held = counted many }

  whole : line.len ≡ 17 → s ≡ line.bytes
  whole h = sym (take_all 17 s (omega (arith, g.count))) ∙ (sym g.held ∙ take_all line.len line.bytes (omega (arith, g.size)))

  pub answer_held : line_answer s ≡ held_answer line
  unfolding held_answer
  answer_held = by (eqb line.len 17) refl
    where
      by : (b : Bool) → eqb line.len 17 ≡ b → line_answer s ≡ held_answer line
      by true e = rw e (ap line_answer (whole (eqb-true _ _ e)))
      by false e = rw e (other_length s (λ l. eqb-false line.len 17 e (omega (arith, g.count))))

  pub last_held : last_answer s ≡ held_last line
  unfolding last_answer held_last
  last_held = by (eqb line.len 0) refl
    where
      by : (b : Bool) → eqb line.len 0 ≡ b → last_answer s ≡ held_last line
      by true e = let z = eqb-true line.len 0 e in rw (e, eq-eqb (length s) 0 (omega (arith, g.count)))
      by false e = rw (e, ne_eqb (length s) 0 (λ l. eqb-false line.len 0 e (omega (arith, g.count)))) answer_held
