-- Sums of products, term by term: one more, several more, and all of them are a bin's.
-- Assumes nothing.
use Prim.Native.Nat.{ℕ, suc, ◌+◌, ◌-◌, ◌*◌, ◌<◌, ◌≤◌}
use mathlib.Core.List.{List, [], ◌∷◌, ◌++◌}
use mathlib.Core.Path.{◌≡◌, refl, sym, ap, ◌∙◌}
use native.Mathlib.Decide.{dec_lt}
use native.Mathlib.Nat.{zero-add, le_of_eq}
use native.Mathlib.Numerals.{add-one}
use native.Mathlib.Omega.{arith}
use lib.Ieee.{Float, nan, binary32, add}
use lib.ListN.{get_or, length, set, take, drop}
use Rattle.std.proofs.lemmas.List.{length-take-le, length-drop, take-append-le}
use lib.Seq.{take_all, ext_get_or, get_or-set_same, get_or-set_other}
use Rattle.ieee.specs.Sums.{total, total_append}
use Rattle.lists.specs.Lists.{up_to}
use Rattle.lists.specs.Select.{length_up_to, get_or_up_to, up_to_same, up_to_add, map_up_to}
use Rattle.complex.specs.Complex.{Pair, pair, product, conjugate, plus}
use Rattle.complex.specs.Totals.{totals, totals_append}
use Rattle.spectra.specs.Spectra.{pair_at, with_pair, column}
use Rattle.spectra.specs.ChangedBins.{length_bin}
use Rattle.spectra.specs.Flat.{pair_with_same, pair_with_other, one_bin}
use Rattle.ratio.specs.declared.BinSums.{BinSums}
use Rattle.ratio.specs.Ratio.{steps, square_of, size_of, correlation, energy}
use Rattle.ratio.specs.Facts.{every_step, step_at_lem}
use Rattle.ratio.proofs.Slots.{pair_from}
use Rattle.ratio.specs.Inner.{Started, Stepped, step_at, TermsPut, SummedTo, TermsAdded, Summed}

-- ---- a sum of the first values of a function, and the next
pub total_last : (s : Float) (f : ℕ → Float) (n : ℕ) (t v : Float) → t ≡ total binary32 s (up_to f n) → v ≡ f n
    → add binary32 t v ≡ total binary32 s (up_to f (n + 1))
unfolding total
total_last s f n t v e g = (λ i. add binary32 (e i) (g i)) ∙ rw (add-one n) (sym (total_append binary32 s (up_to f n) (f n ∷ [])))

pub totals_last : (s : Pair) (f : ℕ → Pair) (n : ℕ) (t v : Pair) → t ≡ totals binary32 s (up_to f n) → v ≡ f n
    → plus binary32 t v ≡ totals binary32 s (up_to f (n + 1))
unfolding totals
totals_last s f n t v e g = (λ i. plus binary32 (e i) (g i)) ∙ rw (add-one n) (sym (totals_append binary32 s (up_to f n) (f n ∷ [])))

-- ---- pairs from pair k on
pub from_pair : (xs : List Float) (k : ℕ) → take (length xs - 2 * k) (drop (2 * k) xs) ≡ drop (2 * k) xs
from_pair xs k = take_all _ _ (le_of_eq (length-drop (2 * k) xs))

step_from : (xs : List Float) (k j : ℕ) → step_at (drop (2 * k) xs) j ≡ step_at xs (k + j)
step_from xs k j =
    let next : k + (j + 1) ≡ k + j + 1 = omega arith in
    λ i. product binary32 ((pair_from xs k (j + 1) ∙ ap (pair_at xs) next) i) (conjugate (pair_from xs k j i))

-- ---- terms stored one after the other
-- a product as it is worked out
pub product_of : (xs : List Float) (k : ℕ) (x y z p : Pair) → y ≡ pair_at xs k → x ≡ pair_at xs (k + 1) → z ≡ conjugate y → p ≡ product binary32 x z
    → p ≡ step_at xs k
product_of xs k x y z p e g h q = q ∙ λ i. product binary32 (g i) ((h ∙ ap conjugate e) i)

pub put_again : (xs : List Float) (n : ℕ) (squares sizes : List Float) (q : Pair) (z : Float)
    → 2 * n + 1 < length squares → n < length sizes → q ≡ square_of (step_at xs n) → z ≡ size_of (step_at xs n)
    → TermsPut xs n squares sizes → TermsPut xs (n + 1) (with_pair squares n q) (set sizes n z)
put_again xs n squares sizes q z room space e g h = record { squared = λ i l. square i (dec_lt i n) l; sized = λ i l. size i (dec_lt i n) l }
  where
    square : (i : ℕ) → Dec (i < n) → i < n + 1 → pair_at (with_pair squares n q) i ≡ square_of (step_at xs i)
    square i (yes l) b = pair_with_other squares n i q (λ s. omega arith) ∙ h.squared i l
    square i (no l) b = let s : i ≡ n = omega arith in rw s (pair_with_same squares n q room ∙ e)

    size : (i : ℕ) → Dec (i < n) → i < n + 1 → get_or (set sizes n z) i nan ≡ size_of (step_at xs i)
    size i (yes l) b = get_or-set_other sizes n i z nan (λ s. omega arith) ∙ h.sized i l
    size i (no l) b = let s : i ≡ n = omega arith in rw s (get_or-set_same sizes n z nan space ∙ g)

-- ---- the sums of the first products
pub sum_begin : (xs : List Float) (s : BinSums) → Started s → SummedTo xs 0 s
unfolding total totals
sum_begin xs s h = record { num = h.num; den = h.den }

pub sum_step : (xs : List Float) (k : ℕ) (s r : BinSums) (x y : Pair) → x ≡ pair_at xs (k + 1) → y ≡ pair_at xs k
    → SummedTo xs k s → Stepped s x y r → SummedTo xs (k + 1) r
sum_step xs k s r x y e g h t =
    let own = product_of xs k x y _ _ g e refl refl in
    record {
      num = t.num ∙ totals_last _ _ k _ _ h.num (ap square_of own);
      den = t.den ∙ total_last _ _ k _ _ h.den (ap size_of own);
    }

-- the terms of the pairs from pair k on
sum_terms : (xs : List Float) (k n : ℕ) (squares sizes : List Float) (s r : BinSums)
    → SummedTo xs k s → TermsPut (drop (2 * k) xs) n squares sizes → TermsAdded s squares sizes n r → SummedTo xs (k + n) r
sum_terms xs k n squares sizes s r h p t =
    let square : ℕ → Pair = λ i. square_of (step_at xs i) in
    let size : ℕ → Float = λ i. size_of (step_at xs i) in
    record {
      num =
          t.num
          ∙ (λ i. totals binary32 (h.num i) (up_to_same (pair_at squares) (λ j. square (k + j)) n (λ j l. p.squared j l ∙ ap square_of (step_from xs k j)) i))
          ∙ sym (ap (totals binary32 _) (up_to_add square k n) ∙ totals_append binary32 _ (up_to square k) (up_to (λ j. square (k + j)) n));
      den =
          t.den
          ∙ (λ i. total binary32 (h.den i) (up_to_same (λ j. get_or sizes j nan) (λ j. size (k + j)) n (λ j l. p.sized j l ∙ ap size_of (step_from xs k j)) i))
          ∙ sym (ap (total binary32 _) (up_to_add size k n) ∙ total_append binary32 _ (up_to size k) (up_to (λ j. size (k + j)) n));
    }

-- what was put in front of a list is what is read of it
front_of : {A : Type 0} (m : ℕ) (xs old new : List A) → m ≤ length old → length new ≡ length (take m old) → xs ≡ take m (new ++ drop m old) → xs ≡ new
front_of m xs old new l e h =
    let same : length new ≡ m = e ∙ length-take-le m old l in
    h ∙ take-append-le m new (drop m old) (omega arith) ∙ take_all m new (omega arith)

pub sum_front : (xs : List Float) (k m n : ℕ) (squares sizes squares' sizes' : List Float) (s r : BinSums)
    → k + m ≡ n → 2 * m ≤ length squares → m ≤ length sizes → length squares' ≡ length (take (2 * m) squares) → length sizes' ≡ length (take m sizes)
    → SummedTo xs k s → TermsPut (drop (2 * k) xs) (length (take m sizes)) squares' sizes'
    → TermsAdded s (take (2 * m) (squares' ++ drop (2 * m) squares)) (take m (sizes' ++ drop m sizes)) (length (take m (sizes' ++ drop m sizes))) r
    → SummedTo xs n r
sum_front xs k m n squares sizes squares' sizes' s r q a b e g h p t =
    let count : length (take m sizes) ≡ m = length-take-le m sizes b in
    let f = front_of (2 * m) _ squares squares' a e refl in
    let i = front_of m _ sizes sizes' b g refl in
    rw q at (sum_terms xs k m squares' sizes' s r h (rw count at p) (rw (f, i, g, count) at t))

-- ---- all products of a bin
pub steps_of : (xs : List Float) (n : ℕ) → steps (column xs 1 0 (suc n)) ≡ up_to (step_at xs) n
steps_of xs n =
    let d : Pair = pair nan nan in
    let bin = column xs 1 0 (suc n) in
    let all : length (steps bin) ≡ n = every_step bin ∙ rw (length_bin 1 xs 0 (suc n)) (omega arith) in
    let at : (i : ℕ) → i < suc n → get_or bin i d ≡ pair_at xs i =
    λ i l. rw (one_bin xs 0 (suc n)) (get_or_up_to (λ j. pair_at xs (0 + j)) (suc n) i d l) ∙ ap (pair_at xs) (zero-add i) in
    ext_get_or d (steps bin) (up_to (step_at xs) n) (all ∙ sym (length_up_to (step_at xs) n)) (λ i h.
    let l : i < n = rw all at h in
    step_at_lem bin d i (rw (length_bin 1 xs 0 (suc n)) (omega arith))
    ∙ (λ z. product binary32 ((at (suc i) (omega arith) ∙ ap (pair_at xs) (sym (add-one i))) z) (conjugate (at i (omega arith) z)))
    ∙ sym (get_or_up_to (step_at xs) n i d l))

pub sum_all : (xs : List Float) (n : ℕ) (s : BinSums) → SummedTo xs n s → Summed (column xs 1 0 (suc n)) s
unfolding correlation energy
sum_all xs n s h =
    record {
      num = h.num ∙ rw (steps_of xs n, map_up_to square_of (step_at xs) n);
      den = h.den ∙ rw (steps_of xs n, map_up_to size_of (step_at xs) n);
    }
