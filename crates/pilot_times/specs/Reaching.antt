-- Which of a window's spectra the offsets of a pilot reach: those before it reach none, those in it one each, `step` apart, and those behind
-- it none. Each spectrum that is reached lies at one of the offsets.
-- Assumes nothing.
use Rattle.std.specs.Prelude.{ℕ, zero, suc, ◌+◌, ◌-◌, ◌*◌, ◌≤◌, ◌<◌, Bool, true, false, cond, ◌≡◌, refl, ltb}
use mathlib.Core.List.Memᴰ
use mathlib.Core.List.{List, [], ◌∷◌, ◌++◌, append-nil, Memᴰ}
use Rattle.std.proofs.Common.{⊎_elim, ap, ◌∙◌, add-suc, add-zero, arith, lt-ltb, le-ltb, ltb-true}
use Rattle.std.proofs.Math.Path.{sym}
use Rattle.std.proofs.Math.Decide.{dec_lt}
use Rattle.std.specs.Float.Ieee.{minus}
use Rattle.ieee.specs.Differences.{minus_above, minus_below}
use Rattle.lists.specs.Lists.{up_to, joined}
use Rattle.lists.specs.Fill.{joined_append}
use Rattle.pilot_times.specs.declared.Window.{Window}
use Rattle.pilot_times.specs.declared.Offsets.{Offsets}
use Rattle.pilot_times.specs.Window.{at_offset, in_window}

-- ---- one offset, x behind the first
module _ (win : Window) (before x : ℕ) where
  abbrev t : ℕ
  t = win.current.index

  early : t + x < before → at_offset win (minus x before) ≡ []
  early h =
      let low : x < before = omega arith in
      rw (minus_below x before low, le-ltb (before - suc x) t (omega arith))

  late : t < win.count → win.count + before ≤ t + x → at_offset win (minus x before) ≡ []
  late c h = rw (minus_above x before (omega arith), le-ltb (t + (x - before)) win.count (omega arith))

  reached : before ≤ t + x → t + x - before < win.count → at_offset win (minus x before) ≡ (t + x - before) ∷ []
  reached l h = by (dec_lt x before)
    where
      by : Dec (x < before) → at_offset win (minus x before) ≡ (t + x - before) ∷ []
      by (yes b) =
          let e : t - suc (before - suc x) ≡ t + x - before = omega arith in
          rw (minus_below x before b, lt-ltb (before - suc x) t (omega arith), e)
      by (no b) =
          let e : t + (x - before) ≡ t + x - before = omega arith in
          rw (minus_above x before (omega arith), e, lt-ltb (t + x - before) win.count h)

-- ---- the lists of the first numbers, one behind another
module _ {A : Type 0} (f : A → List ℕ) (d : ℕ → A) where
  joined_next : (n : ℕ) → joined f (up_to d (suc n)) ≡ joined f (up_to d n) ++ f (d n)
  joined_next n = rw (joined_append f (up_to d n) (d n ∷ []), append-nil)

  -- numbers from k on that give nothing
  idle : (k b : ℕ) → ((i : ℕ) → k ≤ i → i < k + b → f (d i) ≡ []) → joined f (up_to d (k + b)) ≡ joined f (up_to d k)
  idle k zero h = rw (add-zero k)
  idle k (suc b) h =
      rw (add-suc k b) (joined_next (k + b) ∙ rw (h (k + b) (omega arith) (omega arith), append-nil) (idle k b (λ i l m. h i l (omega arith))))

  joined_idle : (k n : ℕ) → k ≤ n → ((i : ℕ) → k ≤ i → i < n → f (d i) ≡ []) → joined f (up_to d n) ≡ joined f (up_to d k)
  joined_idle k n p h =
      let e : n ≡ k + (n - k) = omega arith in
      ap (λ (c : ℕ). joined f (up_to d c)) e ∙ idle k (n - k) (λ i l m. h i l (omega arith))

  -- numbers that give one each
  joined_each : (g : ℕ → ℕ) (k m : ℕ) → joined f (up_to d k) ≡ [] → ((i : ℕ) → i < m → f (d (k + i)) ≡ g i ∷ [])
      → joined f (up_to d (k + m)) ≡ up_to g m
  joined_each g k zero e h = rw (add-zero k) e
  joined_each g k (suc m) e h =
      rw (add-suc k m) (joined_next (k + m) ∙ rw (h m (omega arith), joined_each g k m e (λ i l. h i (omega arith))))

-- ---- m spectra from `first` on, reached by the offsets from number `skipped` on
pub record Met (win : Window) (o : Offsets) (first skipped m : ℕ) : Type 0 where
  pub few : skipped + m ≤ o.count
  pub ahead : (i : ℕ) → i < skipped → win.current.index + o.step * i < o.before
  pub start : 0 < m → win.current.index + o.step * skipped ≡ o.before + first
  pub inside : (i : ℕ) → i < m → first + o.step * i < win.count
  pub behind : (i : ℕ) → skipped + m ≤ i → i < o.count → win.count + o.before ≤ win.current.index + o.step * i

module _ (win : Window) (o : Offsets) (first skipped m : ℕ) (r : Met win o first skipped m) where
  abbrev reached_by : ℕ → List ℕ
  reached_by k = joined (at_offset win) (up_to (λ i. minus (o.step * i) o.before) k)

  none_ahead : reached_by skipped ≡ []
  none_ahead = joined_idle (at_offset win) _ 0 skipped (omega arith) (λ i l h. early win o.before (o.step * i) (r.ahead i h))

  one_each : (i : ℕ) → i < m → at_offset win (minus (o.step * (skipped + i)) o.before) ≡ (first + o.step * i) ∷ []
  one_each i h =
      let t = win.current.index in
      let x : ℕ = o.step * (skipped + i) in
      let e : t + x ≡ o.before + (first + o.step * i) = omega (arith, r.start (omega arith)) in
      let f : t + x - o.before ≡ first + o.step * i = omega arith in
      reached win o.before x (omega arith) (omega (arith, r.inside i h)) ∙ ap (λ (k : ℕ). k ∷ []) f

  pub window : win.current.index < win.count → up_to (λ i. first + o.step * i) m ≡ in_window win o
  unfolding in_window
  window current =
      sym
      (joined_idle (at_offset win) _ (skipped + m) o.count r.few
      (λ i l h. late win o.before (o.step * i) current (r.behind i l h))
      ∙ joined_each (at_offset win) _ (λ i. first + o.step * i) skipped m none_ahead one_each)

-- ---- each spectrum that a window has at the offsets lies at one of them
pub record AtOffset (win : Window) (o : Offsets) (s : ℕ) : Type 0 where
  pub number : ℕ
  pub at : s + o.before ≡ win.current.index + o.step * number

picked : (b : Bool) (v s : ℕ) → Memᴰ s (cond b (v ∷ []) []) → (b ≡ true) × (s ≡ v)
picked true v s l = (refl, Memᴰ.eq_of_singleton l)
picked false v s l = absurd (Memᴰ.not-nil l)

lies_at : (win : Window) (before x s : ℕ) → Memᴰ s (at_offset win (minus x before)) → s + before ≡ win.current.index + x
lies_at win before x s l = by (dec_lt x before)
  where
    by : Dec (x < before) → s + before ≡ win.current.index + x
    by (yes b) =
        let v : ℕ = win.current.index - suc (before - suc x) in
        let p = picked (ltb (before - suc x) win.current.index) v s (rw (minus_below x before b) at l) in
        omega (arith, p.1, ltb-true (before - suc x) win.current.index p.0)
    by (no b) =
        let v : ℕ = win.current.index + (x - before) in
        let p = picked (ltb v win.count) v s (rw (minus_above x before (omega arith)) at l) in
        omega (arith, p.1)

module _ (win : Window) (o : Offsets) (s : ℕ) where
  among : (n : ℕ) → Memᴰ s (joined (at_offset win) (up_to (λ i. minus (o.step * i) o.before) n)) → AtOffset win o s
  among zero l = absurd (Memᴰ.not-nil l)
  among (suc n) l =
      ⊎_elim (among n) (λ here. record { number = n; at = lies_at win o.before (o.step * n) s here })
      (Memᴰ.append_cases _ (rw (joined_next (at_offset win) (λ i. minus (o.step * i) o.before) n) at l))

  pub in_window_lem : Memᴰ s (in_window win o) → AtOffset win o s
  unfolding in_window
  in_window_lem l = among o.count l
