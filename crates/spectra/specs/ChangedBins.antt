-- What a change of spectra does to the pairs of a bin: they are those of the bin that was moved there, each changed.
-- Assumes nothing.
use Rattle.std.specs.Prelude.{ℕ, zero, suc, ◌+◌, ◌*◌, ◌<◌, List, [], ◌∷◌, ◌≡◌, refl, length, Float}
use Rattle.std.proofs.Common.{sym, ap, ◌∙◌, subst, add-zero, zero-mul, zero-add, suc-mul, zero-lt-suc, arith}
use Rattle.complex.specs.Complex.{Pair}
use Rattle.complex.specs.Changes.{Change, changed_pair, WholePair}
use Rattle.spectra.specs.Spectra.{pair_at, column, spectra_in, bin_pairs}
use Rattle.spectra.specs.Changes.{Changed, Wholes}

-- a bin's pairs in symbol order, from spectrum j on
abbrev pub changed_from : Change → ℕ → List Pair → List Pair
changed_from c j [] = []
changed_from c j (x ∷ xs) = changed_pair c j x ∷ changed_from c (suc j) xs

-- all of them are whole numbers
abbrev pub WholePairs : List Pair → Type 0
WholePairs [] = Unit
WholePairs (x ∷ xs) = WholePair x × WholePairs xs

-- ---- the next spectrum's pair
further : (j i : ℕ) → j + suc i ≡ suc j + i
further j i = omega arith

next : (len j b : ℕ) → j * len + b + len ≡ suc j * len + b
next len j b = rw suc-mul (omega arith)

-- ---- a bin of the changed spectra has the pairs of the bin that was moved there, changed
changed_column : (c : Change) (len : ℕ) (xs ys : List Float) (b b' j n : ℕ)
    → ((i : ℕ) → i < n → pair_at ys ((j + i) * len + b') ≡ changed_pair c (j + i) (pair_at xs ((j + i) * len + b)))
    → column ys len (j * len + b') n ≡ changed_from c j (column xs len (j * len + b) n)
unfolding column
changed_column c len xs ys b b' j zero h = refl
changed_column c len xs ys b b' j (suc n) h =
    let z : pair_at ys (j * len + b') ≡ changed_pair c j (pair_at xs (j * len + b)) = rw (add-zero j) at (h 0 (zero-lt-suc n)) in
    let r : (i : ℕ) → i < n → pair_at ys ((suc j + i) * len + b') ≡ changed_pair c (suc j + i) (pair_at xs ((suc j + i) * len + b)) =
    λ i l. rw (further j i) at (h (suc i) (omega arith)) in
    let s : column ys len (j * len + b' + len) n ≡ changed_from c (suc j) (column xs len (j * len + b + len) n) =
    ap (λ (a : ℕ). column ys len a n) (next len j b')
    ∙ changed_column c len xs ys b b' (suc j) n r
    ∙ ap (λ (a : ℕ). changed_from c (suc j) (column xs len a n)) (sym (next len j b)) in
    λ k. z k ∷ s k

pub changed_bin : (c : Change) (len : ℕ) (move : ℕ → ℕ) (xs ys : List Float) (b : ℕ) → b < len → Changed c len move xs ys
    → bin_pairs len ys (move b) ≡ changed_from c 0 (bin_pairs len xs b)
changed_bin c len move xs ys b B h =
    let n = spectra_in len (length xs) in
    let first : (b : ℕ) → 0 * len + b ≡ b = λ b. rw (zero-mul len) (zero-add b) in
    ap (λ (m : ℕ). column ys len (move b) (spectra_in len m)) h.long
    ∙ ap (λ (a : ℕ). column ys len a n) (sym (first (move b)))
    ∙ changed_column c len xs ys b (move b) 0 n (λ i l. rw (zero-add i) (h.pairs i b l B))
    ∙ ap (λ (a : ℕ). changed_from c 0 (column xs len a n)) (first b)

-- its pairs are whole numbers where all are
whole_column : (len : ℕ) (xs : List Float) (b j n : ℕ) → ((i : ℕ) → i < n → WholePair (pair_at xs ((j + i) * len + b)))
    → WholePairs (column xs len (j * len + b) n)
unfolding column
whole_column len xs b j zero h = tt
whole_column len xs b j (suc n) h = (
  rw (add-zero j) at (h 0 (zero-lt-suc n)),
  subst (λ (a : ℕ). WholePairs (column xs len a n)) (sym (next len j b))
      (whole_column len xs b (suc j) n (λ i l. rw (further j i) at (h (suc i) (omega arith)))),
)

pub whole_bin : (len : ℕ) (xs : List Float) (b : ℕ) → b < len → Wholes len xs → WholePairs (bin_pairs len xs b)
whole_bin len xs b B h =
    subst (λ (a : ℕ). WholePairs (column xs len a (spectra_in len (length xs)))) (rw (zero-mul len) (zero-add b))
    (whole_column len xs b 0 (spectra_in len (length xs)) (λ i l. rw (zero-add i) (h.pairs i b l B)))

pub length_bin : (len : ℕ) (xs : List Float) (b n : ℕ) → length (column xs len b n) ≡ n
unfolding column
length_bin len xs b zero = refl
length_bin len xs b (suc n) = ap suc (length_bin len xs (b + len) n)
