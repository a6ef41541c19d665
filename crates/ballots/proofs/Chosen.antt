-- What `ballot_of` keeps: the best so far, and the phases ahead, come to the choice; and whether a phase so far has energy.
-- Assumes nothing.
use Prim.Native.Nat.{ℕ, zero, suc, ◌+◌, ◌-◌, ◌≤◌, ◌<◌}
use mathlib.Core.Bool.{Bool, true, false, cond, ◌||◌}
use mathlib.Core.Path.{◌≡◌, refl}
use native.Mathlib.Numerals.{add-one}
use native.Mathlib.Omega.{arith}
use lib.Ieee.{Float, binary32, lt}
use Rattle.std.proofs.Common.{Option, Some, None}
use Rattle.std.specs.Option.{unwrap_or, is_some}
use mathlib.Core.List.{List}
use Rattle.ieee.specs.Constants.{plus_zero}
use Rattle.params.specs.declared.Mode.{Mode}
use Rattle.complex.specs.Complex.{Pair}
use Rattle.ballots.specs.Ballots.{has_energy, phase_metric, Choice, choose_from}
use Rattle.ballots.specs.Inner.{coherence}

abbrev so_far : ℕ → Float → Choice
so_far best metric = record { phase = best; metric = metric }

-- a phase is compared by its metric, which is 0.0 without energy
pub compared : (mode : Mode) (kinds : List ℕ) (y : ℕ → Pair) (p : ℕ) {r : Option Float} → r ≡ coherence mode kinds y p
    → unwrap_or r (plus_zero binary32) ≡ phase_metric mode kinds y p
unfolding phase_metric
compared mode kinds y p e = rw e (by (has_energy mode kinds y p) _)
  where
    by : (b : Bool) (x : Float) → unwrap_or (cond b (Some (cond b x (plus_zero binary32))) None) (plus_zero binary32) ≡ cond b x (plus_zero binary32)
    by true x = refl
    by false x = refl

pub found : (mode : Mode) (kinds : List ℕ) (y : ℕ → Pair) (p : ℕ) {r : Option Float} → r ≡ coherence mode kinds y p
    → is_some r ≡ has_energy mode kinds y p
found mode kinds y p e = rw e (by (has_energy mode kinds y p) _)
  where
    by : (b : Bool) (x : Float) → is_some (cond b (Some x) None) ≡ b
    by true x = refl
    by false x = refl

-- with the metrics f: the best before phase p, and the phases ahead, come to `all`
pub record Ahead (f : ℕ → Float) (all best : ℕ) (metric : Float) (p : ℕ) : Type 0 where
  pub passed : p ≤ 4
  pub same : (choose_from f (so_far best metric) p (4 - p)).phase ≡ all

phase_more : (f : ℕ → Float) (best : ℕ) (metric : Float) (p n : ℕ)
    → choose_from f (so_far best metric) p (suc n) ≡ choose_from f (cond (lt metric (f p)) (so_far p (f p)) (so_far best metric)) (suc p) n
unfolding choose_from
phase_more f best metric p n = refl

module _ {f : ℕ → Float} {all best : ℕ} {metric : Float} {p : ℕ} (a : Ahead f all best metric p) where
  next : p < 4 → (choose_from f (cond (lt metric (f p)) (so_far p (f p)) (so_far best metric)) (p + 1) (4 - (p + 1))).phase ≡ all
  next h = let z : 4 - p ≡ suc (4 - suc p) = omega arith in rw add-one (rw (z, phase_more f best metric p (4 - suc p)) at a.same)

  pub take : {m : Float} → p < 4 → m ≡ f p → lt metric m ≡ true → Ahead f all p m (p + 1)
  take h e t = let u : lt metric (f p) ≡ true = rw e at t in record { passed = omega arith; same = rw e (rw u at (next h)) }

  pub pass : {m : Float} → p < 4 → m ≡ f p → lt metric m ≡ false → Ahead f all best metric (p + 1)
  pass h e t = let u : lt metric (f p) ≡ false = rw e at t in record { passed = omega arith; same = rw u at (next h) }

  pub done : 4 ≤ p → best ≡ all
  unfolding choose_from
  done h = let z : 4 - p ≡ 0 = omega arith in rw z at a.same

-- whether one of the phases below p has energy
abbrev some_below : (ℕ → Bool) → ℕ → Bool
some_below has zero = false
some_below has (suc p) = some_below has p || has p

-- `heard` says so
pub record SomeTo (has : ℕ → Bool) (heard : Bool) (p : ℕ) : Type 0 where
  pub some : heard ≡ some_below has p

module _ {has : ℕ → Bool} {heard : Bool} {p : ℕ} (s : SomeTo has heard p) where
  pub some_more : {m : Bool} → m ≡ has p → SomeTo has (heard || m) (p + 1)
  some_more e = record { some = rw (add-one p, s.some, e) }

  pub some_of_four : p ≡ 4 → heard ≡ (has 0 || has 1 || has 2 || has 3)
  some_of_four z = rw z at s.some
