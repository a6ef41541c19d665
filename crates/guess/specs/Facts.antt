-- What document 01 says of the guess as facts: where something is found its energy is not at or below zero; nothing is found only if every offset
-- tried has energy at or below zero, or none is tried; the first offset with energy is taken whatever its metric, even a NaN; afterwards
-- only a greater metric replaces. An answer's number is the operation's code.
-- Assumes nothing.
use Rattle.std.specs.Prelude.{ℕ, zero, suc, ◌+◌, ◌*◌, ◌≤◌, ◌<◌, Bool, ◌||◌, cond, leb, ltb, length, get_or, Float, Option, Some, None}
use Rattle.std.proofs.Math.Bool.{true, false}
use mathlib.Core.List.{List, [], ◌∷◌, ◌++◌}
use Rattle.std.proofs.Math.Path.{◌≡◌, refl, ap}
use Rattle.std.proofs.Common.{sym, subst, ◌∙◌, le_of_suc-le-suc, not-suc-le-zero, arith, lt-ltb, le-leb, eqb-true, eq-eqb}
use Rattle.std.proofs.Math.Dec.{eqb}
use Rattle.std.specs.Float.{binary64}
use Rattle.std.specs.Float.Ieee.{lt, le}
use Rattle.params.specs.Params.{code_of}
use Rattle.params.specs.Laws.{answered_code}
use Rattle.ieee.specs.Constants.{plus_zero}
use Rattle.ieee.specs.Zeros.{canon}
use Rattle.lists.specs.Lists.{range}
use Rattle.lists.specs.Tests.{memb, all_in, both_left, both_right}
use Rattle.lists.specs.Select.{length_up_to, get_or_up_to}
use Rattle.samples_needed.specs.Samples.{fft_of, guard_of, symbol_of}
use Rattle.correlation.specs.Correlation.{pairs_in, lags_in}
use Rattle.correlation.specs.Windows.{window_plain}
use Rattle.guess.specs.Guess.{correlation_at, energy_at, guess_at, beats, offered, scan, tried_guard, tried_mode, guessed}
use Rattle.guess.specs.Guess.{guess_code, guess_answer}
use Rattle.guess.specs.declared.ModeGuess.{ModeGuess}

pub first_taken : (xs : List Float) (mode guard d : ℕ) → le (energy_at xs mode guard d) (plus_zero binary64) ≡ false
    → offered xs mode guard None d ≡ Some (guess_at xs mode guard d)
first_taken xs mode guard d h = rw h

pub only_greater : (xs : List Float) (mode guard d : ℕ) (best : ModeGuess) → lt best.metric (guess_at xs mode guard d).metric ≡ false
    → offered xs mode guard (Some best) d ≡ Some best
only_greater xs mode guard d best h = rw h (by (le (energy_at xs mode guard d) (plus_zero binary64)))
  where
    by : (b : Bool) → cond b (Some best) (Some best) ≡ Some best
    by true = refl
    by false = refl

pub record FoundIs (xs : List Float) (g : ModeGuess) : Type 0 where
  pub guess : g ≡ guess_at xs g.mode g.guard g.offset
  pub energy : le (energy_at xs g.mode g.guard g.offset) (plus_zero binary64) ≡ false

-- ---- what every step keeps holds of the whole search
pub cond_keeps : (P : Option ModeGuess → Type 0) (b : Bool) (x y : Option ModeGuess) → P x → P y → P (cond b x y)
cond_keeps P true x y h g = h
cond_keeps P false x y h g = g

-- p says which entries are met
scan_keeps : (P : Option ModeGuess → Type 0) (p : ℕ → Bool) (f : Option ModeGuess → ℕ → Option ModeGuess)
    → ((b : Option ModeGuess) (x : ℕ) → p x ≡ true → P b → P (f b x))
    → (b : Option ModeGuess) (xs : List ℕ) → all_in p xs ≡ true → P b → P (scan f b xs)
unfolding scan
scan_keeps P p f k b [] t h = h
scan_keeps P p f k b (x ∷ xs) t h =
    scan_keeps P p f k (f b x) xs (both_right (p x) (all_in p xs) t) (k b x (both_left (p x) (all_in p xs) t) h)

abbrev any : ℕ → Bool
any x = true

pub all_true : (xs : List ℕ) → all_in (λ x. true) xs ≡ true
all_true [] = refl
all_true (x ∷ xs) = all_true xs

-- the last entry comes last
pub scan_last : (f : Option ModeGuess → ℕ → Option ModeGuess) (b : Option ModeGuess) (xs : List ℕ) (x : ℕ) → scan f b (xs ++ (x ∷ [])) ≡ f (scan f b xs) x
unfolding scan
scan_last f b [] x = refl
scan_last f b (y ∷ xs) x = scan_last f (f b y) xs x

-- P is kept by a guard, a mode and the whole search where an offset keeps it; p says which modes are met
module _ (P : Option ModeGuess → Type 0) (p : ℕ → Bool) (xs : List Float)
    (k : (mode guard : ℕ) → p mode ≡ true → (b : Option ModeGuess) (d : ℕ) → P b → P (offered xs mode guard b d)) where
  guard_keeps : (mode : ℕ) → p mode ≡ true → (b : Option ModeGuess) (guard : ℕ) → P b → P (tried_guard xs mode b guard)
  unfolding tried_guard
  guard_keeps mode m b guard h =
      let offsets = range (symbol_of mode guard) in
      cond_keeps P (leb (guard_of mode guard + 4 * symbol_of mode guard) (lags_in (fft_of mode) xs)) (scan (offered xs mode guard) b offsets) b
      (scan_keeps P any (offered xs mode guard) (λ b d t. k mode guard m b d) b offsets (all_true offsets) h) h

  mode_keeps : (guards : List ℕ) (b : Option ModeGuess) (mode : ℕ) → p mode ≡ true → P b → P (tried_mode xs guards b mode)
  unfolding tried_mode
  mode_keeps guards b mode m h =
      cond_keeps P (ltb (fft_of mode) (pairs_in (length xs))) (scan (tried_guard xs mode) b guards) b
      (scan_keeps P any (tried_guard xs mode) (λ b guard t. guard_keeps mode m b guard) b guards (all_true guards) h) h

  pub search_keeps : (modes guards : List ℕ) → all_in p modes ≡ true → P None → P (guessed xs modes guards)
  unfolding guessed
  search_keeps modes guards M h = scan_keeps P p (tried_mode xs guards) (mode_keeps guards) None modes M h

-- ---- what is found is the guess at its own offset, which has energy
abbrev Good : List Float → Option ModeGuess → Type 0
Good xs (Some g) = FoundIs xs g
Good xs None = Unit

good_guess : (xs : List Float) (mode guard d : ℕ) → le (energy_at xs mode guard d) (plus_zero binary64) ≡ false → FoundIs xs (guess_at xs mode guard d)
unfolding guess_at
good_guess xs mode guard d h = record { guess = refl; energy = h }

good_offered : (xs : List Float) (mode guard : ℕ) (b : Option ModeGuess) (d : ℕ) → Good xs b → Good xs (offered xs mode guard b d)
good_offered xs mode guard b d h = by (le (energy_at xs mode guard d) (plus_zero binary64)) refl
  where
    g : ModeGuess
    g = guess_at xs mode guard d

    by : (t : Bool) → le (energy_at xs mode guard d) (plus_zero binary64) ≡ t → Good xs (cond t b (cond (beats g b) (Some g) b))
    by true e = h
    by false e = cond_keeps (Good xs) (beats g b) (Some g) b (good_guess xs mode guard d e) h

pub found_is : (xs : List Float) (modes guards : List ℕ) (g : ModeGuess) → guessed xs modes guards ≡ Some g → FoundIs xs g
found_is xs modes guards g e = subst (Good xs) e (search_keeps (Good xs) any xs (λ mode guard m. good_offered xs mode guard) modes guards (all_true modes) tt)

-- neither part of what is found is -0.0
pub found_plain : (xs : List Float) (modes guards : List ℕ) (g : ModeGuess) → guessed xs modes guards ≡ Some g
    → (canon g.correlation.re ≡ g.correlation.re) × (canon g.correlation.im ≡ g.correlation.im)
unfolding guess_at correlation_at
found_plain xs modes guards g e =
    let at = (found_is xs modes guards g e).guess in
    subst (λ (g : ModeGuess). (canon g.correlation.re ≡ g.correlation.re) × (canon g.correlation.im ≡ g.correlation.im)) (sym at)
    (plain g.mode g.guard g.offset)
  where
    plain : (mode guard d : ℕ) → let g = (guess_at xs mode guard d).correlation in (canon g.re ≡ g.re) × (canon g.im ≡ g.im)
    plain mode guard d = (window_plain _ _ _, window_plain _ _ _)

-- ---- an answer's number is the number that refuses the call, and 0 where nothing does
pub search_number_lem : (xs : List Float) (modes guards : List ℕ) (scratch : ℕ)
    → code_of (guess_answer xs modes guards scratch) ≡ guess_code modes guards (length xs) scratch
unfolding guess_answer guess_code
search_number_lem xs modes guards scratch = answered_code (guess_code modes guards (length xs) scratch) (guessed xs modes guards) few
  where
    few : guess_code modes guards (length xs) scratch ≤ 11
    few = grind arith

-- an offset that the search tries
pub record Offered (xs : List Float) (modes guards : List ℕ) (mode guard d : ℕ) : Type 0 where
  pub mode_listed : memb mode modes ≡ true
  pub guard_listed : memb guard guards ≡ true
  pub long : fft_of mode < pairs_in (length xs)
  pub fits : guard_of mode guard + 4 * symbol_of mode guard ≤ lags_in (fft_of mode) xs
  pub inside : d < symbol_of mode guard

-- ---- a search that found something never ends with nothing, so one that ends with nothing found nothing at any step
abbrev HasGuess : Option ModeGuess → Type 0
HasGuess (Some g) = Unit
HasGuess None = ⊥

some_offered : (xs : List Float) (mode guard : ℕ) (b : Option ModeGuess) (d : ℕ) → HasGuess b → HasGuess (offered xs mode guard b d)
some_offered xs mode guard b d h =
    let g = guess_at xs mode guard d in
    cond_keeps HasGuess (le (energy_at xs mode guard d) (plus_zero binary64)) b _ h (cond_keeps HasGuess (beats g b) (Some g) b tt h)

module _ (f : Option ModeGuess → ℕ → Option ModeGuess) (k : (b : Option ModeGuess) (x : ℕ) → HasGuess b → HasGuess (f b x)) where
  started : (b : Option ModeGuess) (xs : List ℕ) → scan f b xs ≡ None → b ≡ None
  started (Some g) xs e = absurd (subst HasGuess e (scan_keeps HasGuess any f (λ b x t. k b x) (Some g) xs (all_true xs) tt))
  started None xs e = refl

  no_step : (xs : List ℕ) (x : ℕ) → scan f None xs ≡ None → memb x xs ≡ true → f None x ≡ None
  unfolding scan
  no_step [] x e m = absurd (let z : ◌≡◌ {A = ℕ} 0 1 = cc in omega arith)
  no_step (y ∷ xs) x e m =
      let first = started (f None y) xs e in
      by (eqb y x) refl m first (λ m. no_step xs x (ap (λ (b : Option ModeGuess). scan f b xs) (sym first) ∙ e) m)
    where
      by : (t : Bool) → eqb y x ≡ t → (t || memb x xs) ≡ true → f None y ≡ None → (memb x xs ≡ true → f None x ≡ None) → f None x ≡ None
      by true q m first rest = ap (f None) (sym (eqb-true y x q)) ∙ first
      by false q m first rest = rest m

memb_entry : (xs : List ℕ) (i : ℕ) → i < length xs → memb (get_or xs i 0) xs ≡ true
memb_entry [] i h = absurd (not-suc-le-zero h)
memb_entry (x ∷ xs) zero h = rw (eq-eqb x x refl)
memb_entry (x ∷ xs) (suc i) h = rw (memb_entry xs i (le_of_suc-le-suc h)) (by (eqb x (get_or xs i 0)))
  where
    by : (b : Bool) → (b || true) ≡ true
    by true = refl
    by false = refl

memb_range : (n d : ℕ) → d < n → memb d (range n) ≡ true
memb_range n d h =
    subst (λ (x : ℕ). memb x (range n) ≡ true) (get_or_up_to (λ k. k) n d 0 h) (memb_entry (range n) d (rw (length_up_to (λ k. k) n) h))

module _ (xs : List Float) (mode guard d : ℕ) where
  no_energy : offered xs mode guard None d ≡ None → le (energy_at xs mode guard d) (plus_zero binary64) ≡ true
  no_energy e = by (le (energy_at xs mode guard d) (plus_zero binary64)) e
    where
      by : (t : Bool) → cond t None (Some (guess_at xs mode guard d)) ≡ None → t ≡ true
      by true e = refl
      by false e = absurd (subst HasGuess e tt)

  no_offset : tried_guard xs mode None guard ≡ None → guard_of mode guard + 4 * symbol_of mode guard ≤ lags_in (fft_of mode) xs
      → d < symbol_of mode guard → offered xs mode guard None d ≡ None
  unfolding tried_guard
  no_offset e l h = no_step (offered xs mode guard) (some_offered xs mode guard) (range (symbol_of mode guard)) d (rw (le-leb _ _ l) at e) (memb_range _ d h)

module _ (xs : List Float) (guards : List ℕ) (mode : ℕ) where
  some_guard : (mode : ℕ) (b : Option ModeGuess) (guard : ℕ) → HasGuess b → HasGuess (tried_guard xs mode b guard)
  some_guard mode = guard_keeps HasGuess any xs (λ mode guard m. some_offered xs mode guard) mode refl

  some_mode : (guards : List ℕ) (b : Option ModeGuess) (mode : ℕ) → HasGuess b → HasGuess (tried_mode xs guards b mode)
  some_mode guards b mode = mode_keeps HasGuess any xs (λ mode guard m. some_offered xs mode guard) guards b mode refl

  no_guard : (guard : ℕ) → tried_mode xs guards None mode ≡ None → fft_of mode < pairs_in (length xs) → memb guard guards ≡ true
      → tried_guard xs mode None guard ≡ None
  unfolding tried_mode
  no_guard guard e l m = no_step (tried_guard xs mode) (some_guard mode) guards guard (rw (lt-ltb _ _ l) at e) m

  no_mode : (modes : List ℕ) → guessed xs modes guards ≡ None → memb mode modes ≡ true → tried_mode xs guards None mode ≡ None
  unfolding guessed
  no_mode modes e m = no_step (tried_mode xs guards) (some_mode guards) modes mode e m

pub nothing_found : (xs : List Float) (modes guards : List ℕ) (mode guard d : ℕ) → guessed xs modes guards ≡ None → Offered xs modes guards mode guard d
    → le (energy_at xs mode guard d) (plus_zero binary64) ≡ true
nothing_found xs modes guards mode guard d e h =
    let m = no_mode xs guards mode modes e h.mode_listed in
    let g = no_guard xs guards mode guard m h.long h.guard_listed in
    no_energy xs mode guard d (no_offset xs mode guard d g h.fits h.inside)
