-- Laws of pairs laid flat: their length, their pairs, that a list is its own pairs laid flat, what one stored pair changes, which pairs a
-- column has, and that one bin's pairs laid flat are spectra of one bin.
-- Assumes nothing.
use Rattle.std.specs.Prelude.{ℕ, zero, suc, ◌+◌, ◌*◌, ◌/◌, ◌≤◌, ◌<◌, List, [], ◌∷◌, ◌++◌, ◌≢◌, ◌≡◌, refl, get_or, set, length, take, drop, Float}
use Rattle.std.proofs.Common.{sym, ap, ◌∙◌, arith, le_of_suc-le-suc, not-suc-le-zero, zero-mul, zero-add, suc-mul, mul-one, mul_left_comm}
use Rattle.std.proofs.Common.{mul-le-mul_right, div-add-mod', length-set, length-drop, ext_get_or, get_or-set_same, get_or-set_other, get_or-take}
use Rattle.std.proofs.Common.{get_or-drop, length-take-le}
use Rattle.std.proofs.Math.Decide.{dec_le}
use Rattle.std.specs.Float.{nan}
use Rattle.lists.specs.Lists.{up_to}
use Rattle.lists.specs.Select.{length_up_to, get_or_up_to, up_to_same}
use Rattle.complex.specs.Complex.{Pair, pair}
use Rattle.spectra.specs.Spectra.{pair_at, flat, with_pair, column, spectra_in, bin_pairs}

pub length_flat : (ps : List Pair) → length (flat ps) ≡ 2 * length ps
unfolding flat
length_flat [] = refl
length_flat (p ∷ ps) = rw (length_flat ps) (omega arith)

pub pair_of : (ps : List Pair) (i : ℕ) (d : Pair) → i < length ps → pair_at (flat ps) i ≡ get_or ps i d
unfolding flat
pair_of [] i d h = absurd (not-suc-le-zero h)
pair_of (p ∷ ps) zero d h = refl
pair_of (p ∷ ps) (suc i) d h =
    let e : 2 * suc i ≡ suc (suc (2 * i)) = omega arith in
    let o : 2 * suc i + 1 ≡ suc (suc (2 * i + 1)) = omega arith in
    rw (o, e) (pair_of ps i d (le_of_suc-le-suc h))

pub pair_flat : (f : ℕ → Pair) (n i : ℕ) → i < n → pair_at (flat (up_to f n)) i ≡ f i
pair_flat f n i h = pair_of (up_to f n) i (f i) (rw (length_up_to f n) h) ∙ get_or_up_to f n i (f i) h

-- a list of n pairs that are f's values is those values laid flat
pub flat_own : (f : ℕ → Pair) (n : ℕ) (xs : List Float) → length xs ≡ 2 * n → ((i : ℕ) → i < n → pair_at xs i ≡ f i) → xs ≡ flat (up_to f n)
flat_own f n xs l h =
    ext_get_or nan xs (flat (up_to f n)) (l ∙ sym (length_flat (up_to f n) ∙ ap (λ (k : ℕ). 2 * k) (length_up_to f n)))
    (λ i b. entry i (dec_le i (2 * (i / 2))) b)
  where
    same : (q : ℕ) → q < n → pair_at xs q ≡ pair_at (flat (up_to f n)) q
    same q b = h q b ∙ sym (pair_flat f n q b)

    entry : (i : ℕ) → Dec (i ≤ 2 * (i / 2)) → i < length xs → get_or xs i nan ≡ get_or (flat (up_to f n)) i nan
    entry i (yes g) b = let e : i ≡ 2 * (i / 2) = omega arith in rw e (ap (λ (p : Pair). p.re) (same (i / 2) (omega arith)))
    entry i (no g) b = let e : i ≡ 2 * (i / 2) + 1 = omega arith in rw e (ap (λ (p : Pair). p.im) (same (i / 2) (omega arith)))

-- the pair of bin b of spectrum j lies within n floats
pub pair_inside : (len j b n : ℕ) → j < spectra_in len n → b < len → 2 * (j * len + b) + 1 < n
pair_inside len j b n l m =
    let e : j * (2 * len) + 2 * len ≤ spectra_in len n * (2 * len) = rw (suc-mul j (2 * len)) at (mul-le-mul_right (2 * len) l) in
    omega (arith, mul_left_comm j 2 len, div-add-mod' n (2 * len))

-- ---- a list with v for its pair k
pub length_with : (xs : List Float) (k : ℕ) (v : Pair) → length (with_pair xs k v) ≡ length xs
length_with xs k v = simp length-set

pub pair_with_same : (xs : List Float) (k : ℕ) (v : Pair) → 2 * k + 1 < length xs → pair_at (with_pair xs k v) k ≡ v
pair_with_same xs k v h =
    let apart : 2 * k ≢ 2 * k + 1 = λ e. omega arith in
    rw (
      get_or-set_other (set xs (2 * k) v.re) (2 * k + 1) (2 * k) v.im nan apart,
      get_or-set_same xs (2 * k) v.re nan (omega arith),
      get_or-set_same (set xs (2 * k) v.re) (2 * k + 1) v.im nan (rw length-set h),
    )

pub pair_with_other : (xs : List Float) (k j : ℕ) (v : Pair) → j ≢ k → pair_at (with_pair xs k v) j ≡ pair_at xs j
pair_with_other xs k j v n =
    λ t. pair (other (2 * j) (λ e. n (omega arith)) (λ e. omega arith) t) (other (2 * j + 1) (λ e. omega arith) (λ e. n (omega arith)) t)
  where
    other : (i : ℕ) → i ≢ 2 * k → i ≢ 2 * k + 1 → get_or (with_pair xs k v) i nan ≡ get_or xs i nan
    other i a b = get_or-set_other (set xs (2 * k) v.re) (2 * k + 1) i v.im nan b ∙ get_or-set_other xs (2 * k) i v.re nan a

-- ---- a column, pair by pair
column_last : (xs : List Float) (len k n : ℕ) → column xs len k (suc n) ≡ column xs len k n ++ (pair_at xs (n * len + k) ∷ [])
unfolding column
column_last xs len k zero = rw (zero-mul len, zero-add k) refl
column_last xs len k (suc n) =
    let at : n * len + (k + len) ≡ suc n * len + k = rw suc-mul (omega arith) in
    ap (λ (l : List Pair). pair_at xs k ∷ l) (column_last xs len (k + len) n ∙ ap (λ (i : ℕ). column xs len (k + len) n ++ (pair_at xs i ∷ [])) at)

pub column_is : (xs : List Float) (len k n : ℕ) → column xs len k n ≡ up_to (λ j. pair_at xs (j * len + k)) n
unfolding column
column_is xs len k zero = refl
column_is xs len k (suc n) = column_last xs len k n ∙ ap (λ (l : List Pair). l ++ (pair_at xs (n * len + k) ∷ [])) (column_is xs len k n)

-- ---- one bin's pairs, one behind another
pub one_bin : (xs : List Float) (k n : ℕ) → column xs 1 k n ≡ up_to (λ j. pair_at xs (k + j)) n
one_bin xs k n =
    let at : (j : ℕ) → j * 1 + k ≡ k + j = λ j. rw (mul-one j) (omega arith) in
    column_is xs 1 k n ∙ up_to_same _ _ n (λ j l. ap (pair_at xs) (at j))

-- laid flat, a bin's pairs are spectra of one bin, with these pairs
pub bin_flat : (ps : List Pair) → bin_pairs 1 (flat ps) 0 ≡ ps
bin_flat ps =
    let d : Pair = pair nan nan in
    let all : spectra_in 1 (length (flat ps)) ≡ length ps = rw (length_flat ps) (omega arith) in
    let own = length_up_to (λ j. pair_at (flat ps) (0 + j)) (length ps) in
    rw (all, one_bin (flat ps) 0 (length ps))
    (ext_get_or d _ ps own (λ i h.
    let l : i < length ps = rw own at h in
    get_or_up_to (λ j. pair_at (flat ps) (0 + j)) (length ps) i d l ∙ rw (zero-add i) (pair_of ps i d l)))

-- n pairs of a flat list, from pair k on, are spectra of one bin
module _ (xs : List Float) (k n : ℕ) (room : 2 * (k + n) ≤ length xs) where
  abbrev part : List Float
  part = take (2 * n) (drop (2 * k) xs)

  pub length_part : length part ≡ 2 * n
  length_part = length-take-le (2 * n) (drop (2 * k) xs) (rw length-drop (omega arith))

  entry_part : (i : ℕ) → i < 2 * n → get_or part i nan ≡ get_or xs (2 * k + i) nan
  entry_part i h = get_or-take (2 * n) (drop (2 * k) xs) i nan h ∙ get_or-drop (2 * k) xs i nan

  pair_part : (t : ℕ) → t < n → pair_at part t ≡ pair_at xs (k + t)
  pair_part t l =
      let re : 2 * k + 2 * t ≡ 2 * (k + t) = omega arith in
      let im : 2 * k + (2 * t + 1) ≡ 2 * (k + t) + 1 = omega arith in
      let one = entry_part (2 * t) (omega arith) ∙ ap (λ (i : ℕ). get_or xs i nan) re in
      let two = entry_part (2 * t + 1) (omega arith) ∙ ap (λ (i : ℕ). get_or xs i nan) im in
      λ z. pair (one z) (two z)

  pub bin_part : bin_pairs 1 part 0 ≡ column xs 1 k n
  bin_part =
      let all : spectra_in 1 (length part) ≡ n = rw length_part (omega arith) in
      rw (all, one_bin part 0 n, one_bin xs k n) (up_to_same _ _ n (λ t l. ap (pair_at part) (zero-add t) ∙ pair_part t l))
