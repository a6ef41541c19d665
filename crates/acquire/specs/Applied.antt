-- The function that changes spectra as demand 3 speaks of it: spectra of len pairs, negated, turned, amplified and moved round by s. It shows that
-- the claim is about something: every change of every list exists, of spectra that are moved (`applied`) and of those that are not (`in_place`);
-- samples are spectra of one pair.
-- Assumes nothing.
use Rattle.std.specs.Prelude.{ℕ, ◌+◌, ◌*◌, ◌/◌, ◌%◌, ◌<◌, cond, List, ◌≡◌, refl, eqb, ℤ, pos, neg_ℤ, get_or, length, Float}
use Rattle.std.proofs.Common.{sym, ap, ◌∙◌, add-zero, mod-eq_of_lt, arith}
use Rattle.std.proofs.Math.Arith.{digits_div, digits_mod}
use Rattle.std.proofs.Math.IntN.{+ℤ_invr}
use Rattle.std.specs.Float.{nan}
use Rattle.lists.specs.Lists.{up_to}
use Rattle.lists.specs.Select.{length_up_to, get_or_up_to}
use Rattle.complex.specs.Complex.{Pair, pair}
use Rattle.spectra.specs.Spectra.{pair_at}
use Rattle.spectra.specs.Flat.{pair_inside}
use Rattle.complex.specs.Changes.{Change, changed_pair}
use Rattle.spectra.specs.Changes.{Changed}
use Rattle.shift.specs.Shift.{moved_bin}
use Rattle.shift.specs.MovedBins.{moved_twice, moved_below}

-- pair i of the changed spectra: bin i % len of spectrum i / len, which was moved there
abbrev pub changed_at : Change → ℕ → ℤ → List Float → ℕ → Pair
changed_at c len s xs i = changed_pair c (i / len) (pair_at xs (i / len * len + moved_bin len (i % len) (neg_ℤ s)))

-- real and imaginary part in turn
unfoldable pub changed : Change → ℕ → ℤ → List Float → List Float
changed c len s xs = up_to (λ q. cond (eqb (q % 2) 0) (changed_at c len s xs (q / 2)).re (changed_at c len s xs (q / 2)).im) (length xs)

-- ---- it is the list that it says
even : (k : ℕ) → 2 * k / 2 ≡ k
even k = omega arith

odd : (k : ℕ) → (2 * k + 1) / 2 ≡ k
odd k = omega arith

even_part : (k : ℕ) → 2 * k % 2 ≡ 0
even_part k = omega arith

odd_part : (k : ℕ) → (2 * k + 1) % 2 ≡ 1
odd_part k = omega arith

pair_changed : (c : Change) (len : ℕ) (s : ℤ) (xs : List Float) (k : ℕ) → 2 * k + 1 < length xs → pair_at (changed c len s xs) k ≡ changed_at c len s xs k
unfolding changed
pair_changed c len s xs k h =
    let f : ℕ → Float = λ q. cond (eqb (q % 2) 0) (changed_at c len s xs (q / 2)).re (changed_at c len s xs (q / 2)).im in
    let r : get_or (up_to f (length xs)) (2 * k) nan ≡ (changed_at c len s xs k).re =
    get_or_up_to f (length xs) (2 * k) nan (omega arith) ∙ rw (even_part k, even k) refl in
    let i : get_or (up_to f (length xs)) (2 * k + 1) nan ≡ (changed_at c len s xs k).im =
    get_or_up_to f (length xs) (2 * k + 1) nan h ∙ rw (odd_part k, odd k) refl in
    λ j. pair (r j) (i j)

-- spectrum j, bin b: what stands there
row : (len j b : ℕ) → b < len → (j * len + b) / len ≡ j
row len j b B = digits_div j B

column_of : (len j b : ℕ) → b < len → (j * len + b) % len ≡ b
column_of len j b B = digits_mod j B

back : (len b : ℕ) (s : ℤ) → 0 < len → b < len → moved_bin len (moved_bin len b s) (neg_ℤ s) ≡ b
back len b s L B = sym (moved_twice len b s (neg_ℤ s) L) ∙ ap (moved_bin len b) (+ℤ_invr s) ∙ rw (add-zero b) (mod-eq_of_lt B)

long : (c : Change) (len : ℕ) (s : ℤ) (xs : List Float) → length (changed c len s xs) ≡ length xs
unfolding changed
long c len s xs = length_up_to _ (length xs)

pub applied : (c : Change) (len : ℕ) (s : ℤ) (xs : List Float) → Changed c len (λ b. moved_bin len b s) xs (changed c len s xs)
applied c len s xs =
    record {
      long = long c len s xs;
      pairs = λ j b J B.
          let L : 0 < len = omega arith in
          let m = moved_bin len b s in
          let M : m < len = moved_below len b s L in
          pair_changed c len s xs (j * len + m) (pair_inside len j m (length xs) J M)
          ∙ (λ i. changed_pair c (row len j m M i) (pair_at xs (row len j m M i * len + moved_bin len (column_of len j m M i) (neg_ℤ s))))
          ∙ ap (λ (z : ℕ). changed_pair c j (pair_at xs (j * len + z))) (back len b s L B);
    }

-- the changes of kinds and pilot phase
pub in_place : (c : Change) (len : ℕ) (xs : List Float) → Changed c len (λ b. b) xs (changed c len (pos 0) xs)
in_place c len xs =
    let a = applied c len (pos 0) xs in
    record {
      long = a.long;
      pairs = λ j b J B.
          let stays : (b + 0) % len ≡ b = rw (add-zero b) (mod-eq_of_lt B) in
          ap (λ (z : ℕ). pair_at (changed c len (pos 0) xs) (j * len + z)) (sym stays) ∙ a.pairs j b J B;
    }
