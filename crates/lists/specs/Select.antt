-- Laws of the lists that definitions are made of: their lengths and entries, that they ascend, and that the numbers that pass one of several
-- tests rearrange the list that they were taken from.
-- Assumes nothing.
use Rattle.std.specs.Prelude.{ℕ, zero, suc, ◌+◌, ◌*◌, ◌≤◌, ◌<◌, Bool, true, false, cond, List, [], ◌∷◌, ◌++◌, map, ◌≡◌, refl, length, get_or}
use Rattle.std.proofs.Common.{suc-le-suc, append_assoc, append-nil, sym, ap, ◌∙◌, arith, le_of_suc-le-suc, not-suc-le-zero, suc-mul, zero-mul}
use Rattle.std.proofs.Common.{add-zero, add-suc, add-one, length-append, get_or-append-add, ext_get_or}
use Rattle.std.proofs.lemmas.List.{map-append, get_or_at}
use mathlib.Core.List.Perm
use mathlib.Core.List.{Perm, Perm-prop, perm_middle, perm_append_comm}
use mathlib.Core.List.{Permᴰ}
use Rattle.std.proofs.Math.Logic.{∥∥₁_elim}
use Rattle.std.proofs.Math.Decide.{dec_lt}
use Rattle.std.proofs.Math.ListN.{get_or-append}
use Rattle.lists.specs.Lists.{up_to, range, joined, select, chosen}
use Rattle.lists.specs.Tests.{count_below}

-- the list of f at 0 to n - 1: its length, and its entry i
pub length_up_to : {A : Type 0} (f : ℕ → A) (n : ℕ) → length (up_to f n) ≡ n
length_up_to f zero = refl
length_up_to f (suc n) = simp (length-append, length_up_to f n, add-one)

pub get_or_up_to : {A : Type 0} (f : ℕ → A) (n i : ℕ) (d : A) → i < n → get_or (up_to f n) i d ≡ f i
get_or_up_to f zero i d h = absurd (not-suc-le-zero h)
get_or_up_to f (suc n) i d h = last (dec_lt i n) (λ l. get_or_up_to f n i d l)
  where
    last : Dec (i < n) → (i < n → get_or (up_to f n) i d ≡ f i) → get_or (up_to f (suc n)) i d ≡ f i
    last (yes l) r = get_or-append (up_to f n) (f n ∷ []) d i (rw (length_up_to f n) l) ∙ r l
    last (no g) r = let e : i ≡ n = omega arith in rw e (get_or_at (up_to f n) (f n) [] d n (length_up_to f n))

-- functions that agree have the same values
pub up_to_same : {A : Type 0} (f g : ℕ → A) (n : ℕ) → ((i : ℕ) → i < n → f i ≡ g i) → up_to f n ≡ up_to g n
up_to_same f g zero h = refl
up_to_same f g (suc n) h = λ k. up_to_same f g n (λ i l. h i (omega arith)) k ++ (h n (omega arith) k ∷ [])

-- the values from k on stand behind the first k
pub up_to_add : {A : Type 0} (f : ℕ → A) (k n : ℕ) → up_to f (k + n) ≡ up_to f k ++ up_to (λ i. f (k + i)) n
up_to_add f k zero = rw (add-zero k) (sym (append-nil (up_to f k)))
up_to_add f k (suc n) = rw (add-suc k n, up_to_add f k n) (append_assoc (up_to f k) (up_to (λ i. f (k + i)) n) (f (k + n) ∷ []))

-- a function of each value
pub map_up_to : {A B : Type 0} (g : A → B) (f : ℕ → A) (n : ℕ) → map g (up_to f n) ≡ up_to (λ i. g (f i)) n
map_up_to g f zero = refl
map_up_to g f (suc n) = rw (map-append g (up_to f n) (f n ∷ []), map_up_to g f n)

-- a list is the values of its own lookup
pub up_to_get_or : (xs : List ℕ) → up_to (λ (i : ℕ). get_or xs i 0) (length xs) ≡ xs
up_to_get_or xs =
    ext_get_or 0 _ xs (length_up_to _ (length xs)) (λ i h.
    get_or_up_to _ (length xs) i 0 (rw (length_up_to (λ i. get_or xs i 0) (length xs)) at h))

-- parts of c entries each, one behind another: their length, and entry i of part q
module _ {A : Type 0} (f : A → List ℕ) (c : ℕ) (d : A) where
  pub length_joined : (xs : List A) → ((i : ℕ) → i < length xs → length (f (get_or xs i d)) ≡ c) → length (joined f xs) ≡ length xs * c
  length_joined [] h = sym (zero-mul c)
  length_joined (x ∷ xs) h =
      length-append (f x) (joined f xs)
      ∙ rw (h 0 (omega arith), length_joined xs (λ i l. h (suc i) (suc-le-suc l)), suc-mul) (omega arith)

  pub get_or_joined : (xs : List A) → ((i : ℕ) → i < length xs → length (f (get_or xs i d)) ≡ c) → (q i z : ℕ) → q < length xs → i < c
      → get_or (joined f xs) (q * c + i) z ≡ get_or (f (get_or xs q d)) i z
  get_or_joined [] h q i z l m = absurd (not-suc-le-zero l)
  get_or_joined (x ∷ xs) h zero i z l m =
      let e : 0 * c + i ≡ i = rw zero-mul (omega arith) in
      rw e (get_or-append (f x) (joined f xs) z i (rw (h 0 (omega arith)) m))
  get_or_joined (x ∷ xs) h (suc q) i z l m =
      let e : suc q * c + i ≡ length (f x) + (q * c + i) = rw (h 0 (omega arith), suc-mul) (omega arith) in
      rw e
      (get_or-append-add (f x) (joined f xs) (q * c + i) z
      ∙ get_or_joined xs (λ j k. h (suc j) (suc-le-suc k)) q i z (le_of_suc-le-suc l) m)

joined_permᴰ : {A : Type 0} (f : A → List ℕ) {xs ys : List A} → Permᴰ xs ys → Perm (joined f xs) (joined f ys)
joined_permᴰ f Permᴰ.nil = Perm.nil
joined_permᴰ f (Permᴰ.cons {b = b} e p) = rw e (Perm.append_left (f b) (joined_permᴰ f p))
joined_permᴰ f (Permᴰ.swap {a' = a} {b' = b} {l = l} e g) =
    rw (e, g, ← append_assoc (f b) (f a) (joined f l), ← append_assoc (f a) (f b) (joined f l))
    (Perm.append_right (joined f l) (perm_append_comm (f b) (f a)))
joined_permᴰ f (Permᴰ.trans p q) = Perm.trans (joined_permᴰ f p) (joined_permᴰ f q)

-- parts in another order are a rearrangement
pub joined_perm : {A : Type 0} (f : A → List ℕ) {xs ys : List A} → Perm xs ys → Perm (joined f xs) (joined f ys)
joined_perm f p = ∥∥₁_elim p Perm-prop (λ d. joined_permᴰ f d)

-- what passes of two lists joined is what passes of each, joined
pub select_append : (p : ℕ → Bool) (xs ys : List ℕ) → select p (xs ++ ys) ≡ select p xs ++ select p ys
select_append p [] ys = refl
select_append p (x ∷ xs) ys = rw (select_append p xs ys) (by (p x))
  where
    by : (b : Bool) → cond b (x ∷ (select p xs ++ select p ys)) (select p xs ++ select p ys)
        ≡ cond b (x ∷ select p xs) (select p xs) ++ select p ys
    by true = refl
    by false = refl

-- two tests that agree on each number below n choose the same numbers
pub select_same : (p q : ℕ → Bool) (n : ℕ) → ((k : ℕ) → k < n → p k ≡ q k) → select p (range n) ≡ select q (range n)
select_same p q zero h = refl
select_same p q (suc n) h =
    rw (
      select_append p (range n) (n ∷ []),
      select_append q (range n) (n ∷ []),
      select_same p q n (λ k l. h k (omega arith)),
      h n (omega arith),
    )

-- where no number below n passes, none is chosen
pub select_none : (p : ℕ → Bool) (n : ℕ) → ((k : ℕ) → k < n → p k ≡ false) → select p (range n) ≡ []
select_none p zero h = refl
select_none p (suc n) h = rw (select_append p (range n) (n ∷ []), select_none p n (λ k l. h k (omega arith)), h n (omega arith))

-- where the entries of two lists joined stand that pass
pub chosen_append : (p : ℕ → Bool) (k : ℕ) (xs ys : List ℕ) → chosen p k (xs ++ ys) ≡ chosen p k xs ++ chosen p (k + length xs) ys
chosen_append p k [] ys = let e : k + 0 ≡ k = omega arith in rw e
chosen_append p k (x ∷ xs) ys =
    let e : suc k + length xs ≡ k + suc (length xs) = omega arith in
    rw (chosen_append p (suc k) xs ys, e) (by (p x) (chosen p (suc k) xs) (chosen p (k + suc (length xs)) ys))
  where
    by : (b : Bool) (us vs : List ℕ) → cond b (k ∷ (us ++ vs)) (us ++ vs) ≡ cond b (k ∷ us) us ++ vs
    by true us vs = refl
    by false us vs = refl

chosen_last : (p : ℕ → Bool) (f : ℕ → ℕ) (k n : ℕ)
    → chosen p k (up_to f (suc n)) ≡ chosen p k (up_to f n) ++ cond (p (f n)) ((k + n) ∷ []) []
chosen_last p f k n = chosen_append p k (up_to f n) (f n ∷ []) ∙ rw (length_up_to f n)

-- of the values of f, they are the numbers at which the value passes
pub chosen_up_to : (p : ℕ → Bool) (f : ℕ → ℕ) (n : ℕ) → chosen p 0 (up_to f n) ≡ select (λ k. p (f k)) (range n)
chosen_up_to p f zero = refl
chosen_up_to p f (suc n) =
    let e : 0 + n ≡ n = omega arith in
    chosen_last p f 0 n ∙ rw (chosen_up_to p f n, select_append (λ k. p (f k)) (range n) (n ∷ []), e)

-- of any list, they are the numbers at which the entry passes
pub chosen_select : (p : ℕ → Bool) (xs : List ℕ) → chosen p 0 xs ≡ select (λ k. p (get_or xs k 0)) (range (length xs))
chosen_select p xs = ap (chosen p 0) (sym (up_to_get_or xs)) ∙ chosen_up_to p (λ k. get_or xs k 0) (length xs)

-- they are as many as pass
pub length_chosen : (p : ℕ → Bool) (f : ℕ → ℕ) (k n : ℕ) → length (chosen p k (up_to f n)) ≡ count_below (λ i. p (f i)) n
length_chosen p f k zero = refl
length_chosen p f k (suc n) =
    ap length (chosen_last p f k n)
    ∙ (length-append (chosen p k (up_to f n)) (cond (p (f n)) ((k + n) ∷ []) []) ∙ by (p (f n)) (length_chosen p f k n))
  where
    by : (b : Bool) → length (chosen p k (up_to f n)) ≡ count_below (λ i. p (f i)) n
        → length (chosen p k (up_to f n)) + length (cond b ((k + n) ∷ []) []) ≡ cond b 1 0 + count_below (λ i. p (f i)) n
    by true h = omega arith
    by false h = omega arith

-- two tests that agree count the same
pub count_same : (p q : ℕ → Bool) (n : ℕ) → ((k : ℕ) → p k ≡ q k) → count_below p n ≡ count_below q n
count_same p q zero h = refl
count_same p q (suc n) h = rw (h n, count_same p q n h)

-- of parts of length c, whose first is part number q: what is chosen in each, one behind another
pub chosen_joined : (p : ℕ → Bool) (f : ℕ → List ℕ) (c : ℕ) (place : ℕ → ℕ) (xs : List ℕ) (q : ℕ)
    → ((i : ℕ) → i < length xs → length (f (get_or xs i 0)) ≡ c) → ((i : ℕ) → i < length xs → place (get_or xs i 0) ≡ q + i)
    → chosen p (q * c) (joined f xs) ≡ joined (λ x. chosen p (place x * c) (f x)) xs
chosen_joined p f c place [] q h g = refl
chosen_joined p f c place (x ∷ xs) q h g =
    let here : place x ≡ q = g 0 (omega arith) ∙ omega arith in
    let next : q * c + length (f x) ≡ suc q * c = rw (h 0 (omega arith), suc-mul) in
    chosen_append p (q * c) (f x) (joined f xs)
    ∙ rw (
      next,
      chosen_joined p f c place xs (suc q) (λ i l. h (suc i) (suc-le-suc l)) (λ i l. g (suc i) (suc-le-suc l) ∙ omega arith),
      here,
    )

-- each entry is at least low and greater than the one before it
abbrev pub AscendingFrom : ℕ → List ℕ → Type 0
AscendingFrom low [] = Unit {0}
AscendingFrom low (x ∷ xs) = (low ≤ x) × AscendingFrom (suc x) xs

abbrev pub Ascending : List ℕ → Type 0
Ascending xs = AscendingFrom 0 xs

ascending_lower : (low high : ℕ) (xs : List ℕ) → low ≤ high → AscendingFrom high xs → AscendingFrom low xs
ascending_lower low high [] h a = tt
ascending_lower low high (x ∷ xs) h a = (omega (arith, a.0), a.1)

chosen_from : (p : ℕ → Bool) (k : ℕ) (xs : List ℕ) → AscendingFrom k (chosen p k xs)
chosen_from p k [] = tt
chosen_from p k (x ∷ xs) = by (p x) (chosen_from p (suc k) xs)
  where
    by : (b : Bool) → AscendingFrom (suc k) (chosen p (suc k) xs) → AscendingFrom k (cond b (k ∷ chosen p (suc k) xs) (chosen p (suc k) xs))
    by true a = (omega arith, a)
    by false a = ascending_lower k (suc k) (chosen p (suc k) xs) (omega arith) a

-- what is chosen ascends
pub chosen_ascending : (p : ℕ → Bool) (k : ℕ) (xs : List ℕ) → Ascending (chosen p k xs)
chosen_ascending p k xs = ascending_lower 0 k (chosen p k xs) (omega arith) (chosen_from p k xs)

-- and so do the numbers below n that pass
pub select_ascending : (p : ℕ → Bool) (n : ℕ) → Ascending (select p (range n))
select_ascending p n = rw (chosen_up_to p (λ k. k) n) at (chosen_ascending p 0 (range n))

-- how many of a list pass
abbrev pub passes : {A : Type 0} → (A → Bool) → List A → ℕ
passes t [] = 0
passes t (r ∷ rs) = cond (t r) 1 0 + passes t rs

-- two tests that agree pass as many
pub passes_same : {A : Type 0} (t u : A → Bool) (rs : List A) → ((r : A) → t r ≡ u r) → passes t rs ≡ passes u rs
passes_same t u [] h = refl
passes_same t u (r ∷ rs) h = rw (h r, passes_same t u rs h)

module _ {A : Type 0} (t : A → ℕ → Bool) where
  abbrev sorted : List A → List ℕ → List ℕ
  sorted rs xs = joined (λ r. select (t r) xs) rs

  sorted_nil : (rs : List A) → sorted rs [] ≡ []
  sorted_nil [] = refl
  sorted_nil (r ∷ rs) = sorted_nil rs

  -- a number that passes no test is left out
  past : (rs : List A) (x : ℕ) (xs : List ℕ) → passes (λ r. t r x) rs ≡ 0 → sorted rs (x ∷ xs) ≡ sorted rs xs
  past [] x xs h = refl
  past (r ∷ rs) x xs h = by (t r x) h (λ l. past rs x xs l)
    where
      by : (b : Bool) → cond b 1 0 + passes (λ r. t r x) rs ≡ 0 → (passes (λ r. t r x) rs ≡ 0 → sorted rs (x ∷ xs) ≡ sorted rs xs)
          → cond b (x ∷ select (t r) xs) (select (t r) xs) ++ sorted rs (x ∷ xs) ≡ select (t r) xs ++ sorted rs xs
      by true h go = absurd (omega arith)
      by false h go = rw (go (omega arith))

  -- a number that passes one test stands in one part
  insert : (rs : List A) (x : ℕ) (xs : List ℕ) → passes (λ r. t r x) rs ≡ 1 → Perm (sorted rs (x ∷ xs)) (x ∷ sorted rs xs)
  insert [] x xs h = absurd (omega arith)
  insert (r ∷ rs) x xs h = by (t r x) h (λ l. insert rs x xs l)
    where
      by : (b : Bool) → cond b 1 0 + passes (λ r. t r x) rs ≡ 1 → (passes (λ r. t r x) rs ≡ 1 → Perm (sorted rs (x ∷ xs)) (x ∷ sorted rs xs))
          → Perm (cond b (x ∷ select (t r) xs) (select (t r) xs) ++ sorted rs (x ∷ xs)) (x ∷ (select (t r) xs ++ sorted rs xs))
      by true h go = rw (past rs x xs (omega arith)) (Perm.refl (x ∷ (select (t r) xs ++ sorted rs xs)))
      by false h go = Perm.trans (Perm.append_left (select (t r) xs) (go (omega arith))) (perm_middle (select (t r) xs) (sorted rs xs))

  sorted_each : (rs : List A) (xs : List ℕ)
      → ((i : ℕ) → i < length xs → passes (λ r. t r (get_or xs i 0)) rs ≡ 1) → Perm (sorted rs xs) xs
  sorted_each rs [] h = rw (sorted_nil rs) Perm.nil
  sorted_each rs (x ∷ xs) h =
      Perm.trans (insert rs x xs (h 0 (omega arith))) (Perm.cons x (sorted_each rs xs (λ i l. h (suc i) (suc-le-suc l))))

  -- where each number below n passes exactly one test, what passes each, joined, rearranges the numbers below n
  pub sorted_perm : (rs : List A) (n : ℕ) → ((k : ℕ) → k < n → passes (λ r. t r k) rs ≡ 1)
      → Perm (joined (λ r. select (t r) (range n)) rs) (range n)
  sorted_perm rs n h =
      sorted_each rs (range n) (λ i l.
      let m : i < n = rw (length_up_to (λ k. k) n) at l in
      rw (get_or_up_to (λ k. k) n i 0 m) (h i m))
