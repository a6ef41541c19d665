-- How what is written of a lent grid grows: by nothing, a point, a stretch behind another, a stretch that keeps what it holds, up to the whole.
-- Assumes nothing.
use Prim.Native.Nat.{ℕ, ◌+◌, ◌*◌, ◌≤◌, ◌<◌}
use mathlib.Core.List.{List}
use mathlib.Core.Logic.{◌≢◌}
use mathlib.Core.Path.{◌≡◌, refl, ap, ◌∙◌}
use native.Mathlib.Decide.{dec_lt}
use native.Mathlib.Omega.{arith}
use lib.ListN.{length}
use lib.Ieee.{Float}
use Rattle.lists.specs.Lists.{up_to}
use Rattle.complex.specs.Complex.{Pair}
use Rattle.spectra.specs.Spectra.{pair_at, with_pair, flat}
use Rattle.spectra.specs.Flat.{length_with, pair_with_same, pair_with_other, flat_own}
use Rattle.chanest.specs.Inner.{Written}

-- a stretch that holds f's values already
pub kept : (f : ℕ → Pair) (a b : ℕ) (old : List Float) → ((i : ℕ) → a ≤ i → i < b → pair_at old i ≡ f i) → Written f a b old old
kept f a b old h = record { size = refl; written = h; below = λ i l. refl; above = λ i l. refl }

pub nothing : (f : ℕ → Pair) (a : ℕ) (old : List Float) → Written f a a old old
nothing f a old = kept f a a old (λ i l h. absurd (omega arith))

-- one point more
module _ {f : ℕ → Pair} {a i : ℕ} {old mid now : List Float} (v : Pair) (w : Written f a i old mid) (e : now ≡ with_pair mid i v) where
  other : (j : ℕ) → j ≢ i → pair_at now j ≡ pair_at mid j
  other j n = ap (λ (xs : List Float). pair_at xs j) e ∙ pair_with_other mid i j v n

  pub one_more : a ≤ i → 2 * i + 1 < length old → v ≡ f i → Written f a (i + 1) old now
  one_more l room q =
      record {
        size = ap length e ∙ (length_with mid i v ∙ w.size);
        written = λ j m h. here j m h (dec_lt j i);
        below = λ j h. other j (λ z. omega arith) ∙ w.below j h;
        above = λ j h. other j (λ z. omega arith) ∙ w.above j (omega arith);
      }
    where
      here : (j : ℕ) → a ≤ j → j < i + 1 → Dec (j < i) → pair_at now j ≡ f j
      here j m h (yes k) = other j (λ z. omega arith) ∙ w.written j m k
      here j m h (no k) =
          let z : j ≡ i = omega arith in
          rw z (ap (λ (xs : List Float). pair_at xs i) e ∙ (pair_with_same mid i v (omega (arith, w.size)) ∙ q))

-- two stretches, one behind the other
pub together : {f : ℕ → Pair} {a b c : ℕ} {old mid now : List Float} → a ≤ b → b ≤ c → Written f a b old mid → Written f b c mid now → Written f a c old now
together {f} {a} {b} {c} {old} {mid} {now} l m p q =
    record {
      size = q.size ∙ p.size;
      written = λ i u h. here i u h (dec_lt i b);
      below = λ i h. q.below i (omega arith) ∙ p.below i h;
      above = λ i h. q.above i h ∙ p.above i (omega arith);
    }
  where
    here : (i : ℕ) → a ≤ i → i < c → Dec (i < b) → pair_at now i ≡ f i
    here i u h (yes k) = q.below i k ∙ p.written i u k
    here i u h (no k) = q.written i (omega arith) h

-- another function that agrees on the stretch
pub exchanged : {f g : ℕ → Pair} {a b : ℕ} {old now : List Float} → Written f a b old now → ((i : ℕ) → a ≤ i → i < b → f i ≡ g i) → Written g a b old now
exchanged w h = record { size = w.size; written = λ i l m. w.written i l m ∙ h i l m; below = w.below; above = w.above }

-- all of it, and perhaps more
pub whole : {f : ℕ → Pair} {n m : ℕ} {old now : List Float} → length old ≡ 2 * n → n ≤ m → Written f 0 m old now → now ≡ flat (up_to f n)
whole {f} {n} {m} {old} {now} l s w = flat_own f n now (w.size ∙ l) (λ i h. w.written i (omega arith) (omega arith))
