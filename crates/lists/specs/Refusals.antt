-- Refusals in the order in which a paper lists them.
-- Assumes nothing.
use Rattle.std.specs.Prelude.{ℕ, ◌<◌, ◌≤◌, Bool, true, false, cond, ◌≡◌, refl, T, eqb}
use Rattle.std.proofs.Common.{sym, ap, ◌∙◌, arith, eq-eqb, ne_eqb, eqb→eq}

-- the number that refuses an input which fails the test; else what the later tests say
abbrev pub unless : Bool → ℕ → ℕ → ℕ
unless test number later = cond test later number

-- where nothing refuses, the first test is passed, and the later ones refuse nothing either
pub record Passed (test : Bool) (later : ℕ) : Type 0 where
  pub first : test ≡ true
  pub rest : later ≡ 0

pub passed : (test : Bool) (number later : ℕ) → 0 < number → unless test number later ≡ 0 → Passed test later
passed true number later h e = record { first = refl; rest = e }
passed false number later h e = absurd (omega arith)

-- the number of a chain of tests is one of theirs
pub unless_most : (test : Bool) (number later most : ℕ) → number ≤ most → later ≤ most → unless test number later ≤ most
unless_most true number later most n l = l
unless_most false number later most n l = n

-- ---- tests in front of later ones: the later ones count only where these refuse nothing
abbrev pub InFront : (ℕ → ℕ) → Type 0
InFront f = (later : ℕ) → f later ≡ cond (eqb (f 0) 0) later (f 0)

pub one_in_front : (test : Bool) (number : ℕ) → 0 < number → InFront (unless test number)
one_in_front true number h later = refl
one_in_front false number h later = rw (ne_eqb number 0 (λ e. omega arith))

pub both_in_front : (f g : ℕ → ℕ) → InFront f → InFront g → InFront (λ later. f (g later))
both_in_front f g F G later = F (g later) ∙ by (eqb (f 0) 0) refl
  where
    by : (b : Bool) → eqb (f 0) 0 ≡ b → cond b (g later) (f 0) ≡ cond (eqb (f (g 0)) 0) later (f (g 0))
    by true e = G later ∙ ap (λ (z : ℕ). cond (eqb z 0) later z) (sym (F (g 0) ∙ ap (λ (t : Bool). cond t (g 0) (f 0)) e))
    by false e =
        let same : f (g 0) ≡ f 0 = F (g 0) ∙ ap (λ (t : Bool). cond t (g 0) (f 0)) e in
        ap (λ (t : Bool). cond t later (f 0)) (sym e) ∙ ap (λ (z : ℕ). cond (eqb z 0) later z) (sym same)

-- by their own number, the whole chain's
module _ (f : ℕ → ℕ) (F : InFront f) (code later : ℕ) (own : code ≡ f 0) where
  pub refused_first : (code ≡ 0 → ⊥) → f later ≡ code
  refused_first h = F later ∙ rw (← own, ne_eqb code 0 h)

  pub let_pass : code ≡ 0 → f later ≡ later
  let_pass z = F later ∙ rw (← own, eq-eqb code 0 z)

-- ---- an answer that is the number's refusal, or else x: its number is that number, where x has 0
pub numbered : {A : Type 0} (number : A → ℕ) (refused : ℕ → A) (code : ℕ) (x : A) → number x ≡ 0 → ((k : ℕ) → number (refused k) ≡ k)
    → number (cond (eqb code 0) x (refused code)) ≡ code
numbered number refused code x z r = by (eqb code 0) (eqb→eq code 0)
  where
    by : (b : Bool) → (T b → code ≡ 0) → number (cond b x (refused code)) ≡ code
    by true f = z ∙ sym (f tt)
    by false f = r code
