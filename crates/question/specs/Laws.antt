-- What is known of a question's bytes, and the cases of what refuses a line.
-- Assumes nothing.
use Rattle.std.specs.Prelude.{ℕ, suc, ◌+◌, ◌-◌, ◌≤◌, ◌<◌, Bool, true, false, cond, ◌&&◌, ◌||◌, List, ◌≡◌, refl, eqb, leb, ltb, length, get_or, drop}
use Rattle.std.proofs.Common.{ap, ◌∙◌, arith, ltb-true, leb-true, leb-false, eqb-true, ne_eqb, le-leb, lt-ltb, le-ltb, length-drop, get_or-drop}
use Rattle.std.proofs.Math.ListN.{get_or-map}
use Rattle.lists.specs.Refusals.{unless}
use Rattle.lists.specs.Tests.{all_in, all_in_at, both_left, both_right}
use Rattle.frame.specs.Roles.{between}
use Rattle.question.specs.Question.{is_digit, is_kind_letter, is_question, phase_asked, kinds_asked, line_code, Answered}

six : (a b c d e f : Bool) → (a && (b && (c && (d && (e && f))))) ≡ true → (a ≡ true) × ((b ≡ true) × ((d ≡ true) × (f ≡ true)))
six a b c d e f h =
    let bs = both_right a (b && (c && (d && (e && f)))) h in
    let cs = both_right b (c && (d && (e && f))) bs in
    let ds = both_right c (d && (e && f)) cs in
    let es = both_right d (e && f) ds in
    (both_left a (b && (c && (d && (e && f)))) h, (both_left b (c && (d && (e && f))) bs, (both_left d (e && f) ds, both_right e f es)))

module _ (s : List ℕ) (q : is_question s ≡ true) where
  parts : (eqb (length s) 17 ≡ true) × ((is_digit (get_or s 0 0) ≡ true) × ((is_digit (get_or s 2 0) ≡ true) × (all_in is_kind_letter (drop 4 s) ≡ true)))
  unfolding is_question
  parts = six (eqb (length s) 17) (is_digit (get_or s 0 0)) (eqb (get_or s 1 0) 44) (is_digit (get_or s 2 0)) (eqb (get_or s 3 0) 44)
      (all_in is_kind_letter (drop 4 s)) q

  pub question_size : length s ≡ 17
  question_size = eqb-true _ _ parts.0

  pub question_mode : 48 ≤ get_or s 0 0
  question_mode = leb-true _ _ (both_left (leb 48 (get_or s 0 0)) (leb (get_or s 0 0) 57) parts.1.0)

  -- a phase is a digit up to 3
  pub question_phase : ltb (phase_asked s) 4 ≡ between 48 51 (get_or s 2 0)
  question_phase = rw (le-leb 48 (get_or s 2 0) low) (by (leb (get_or s 2 0) 51) refl)
    where
      low : 48 ≤ get_or s 2 0
      low = leb-true _ _ (both_left (leb 48 (get_or s 2 0)) (leb (get_or s 2 0) 57) parts.1.1.0)

      by : (b : Bool) → leb (get_or s 2 0) 51 ≡ b → ltb (phase_asked s) 4 ≡ b
      by true e = lt-ltb (phase_asked s) 4 (omega (arith, low, leb-true (get_or s 2 0) 51 e))
      by false e = le-ltb (phase_asked s) 4 (omega (arith, leb-false (get_or s 2 0) 51 e))

  letter : (b : ℕ) → is_kind_letter b ≡ true → 67 ≤ b
  letter b h = by (eqb b 67) refl h
    where
      by : (e : Bool) → eqb b 67 ≡ e → (e || eqb b 68) ≡ true → 67 ≤ b
      by true e h = omega (arith, eqb-true b 67 e)
      by false e h = omega (arith, eqb-true b 68 h)

  pub question_letter : (seg : ℕ) → seg < 13 → 67 ≤ get_or s (4 + seg) 0
  question_letter seg h =
      let inside : seg < length (drop 4 s) = rw length-drop (omega (arith, question_size)) in
      rw (get_or-drop 4 s seg 0) at (letter (get_or (drop 4 s) seg 0) (all_in_at is_kind_letter (drop 4 s) parts.1.1.1 seg inside))

pub kind_asked : (s : List ℕ) (seg : ℕ) → get_or (kinds_asked s) seg 0 ≡ get_or s (4 + seg) 0 - 67
kind_asked s seg = get_or-map (λ b. b - 67) (drop 4 s) seg 0 ∙ ap (λ (b : ℕ). b - 67) (get_or-drop 4 s seg 0)

-- the refusals of a question
pub question_code : (s : List ℕ) → is_question s ≡ true → line_code s ≡ unless (between 49 51 (get_or s 0 0)) 1 (unless (between 48 51 (get_or s 2 0)) 3 0)
unfolding line_code
question_code s q = rw (q, question_phase s q)

pub other_code : (s : List ℕ) → is_question s ≡ false → line_code s ≡ 11
unfolding line_code
other_code s q = rw q

-- a line that nothing refuses
pub not_refused : (s : List ℕ) → line_code s ≡ 0 → Answered s
unfolding line_code
not_refused s e =
    let w = both (is_question s) (leb 49 (get_or s 0 0) && leb (get_or s 0 0) 51) (ltb (phase_asked s) 4) e in
    record { question = w.0; phase = ltb-true _ _ w.1 }
  where
    never : (n : ℕ) {A : Type 0} → suc n ≡ 0 → A
    never n e = absurd (omega arith)

    both : (q m p : Bool) → ◌≡◌ {A = ℕ} (cond q (cond m (cond p 0 3) 1) 11) 0 → (q ≡ true) × (p ≡ true)
    both true true true e = (refl, refl)
    both true true false e = never 2 e
    both true false p e = never 0 e
    both false m p e = never 10 e

-- a line of any other length is no question
pub no_question : (s : List ℕ) → (length s ≡ 17 → ⊥) → is_question s ≡ false
unfolding is_question
no_question s h = rw (ne_eqb (length s) 17 h)
