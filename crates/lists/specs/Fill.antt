-- Laws for loops that write a lent buffer from the front: entry by entry, part by part, or only the entries that pass a test.
-- Assumes nothing.
use Rattle.std.specs.Prelude.{ℕ, zero, suc, ◌+◌, ◌*◌, ◌-◌, ◌≤◌, ◌<◌, Bool, true, false, List, [], ◌∷◌, ◌++◌, map, ◌≡◌, refl, length, get_or, take, drop, set}
use Rattle.std.proofs.Common.{append_assoc, append-nil, sym, ap, ◌∙◌, arith, zero-mul, suc-mul, add-zero, add-suc, le_of_suc-le-suc, not-suc-le-zero}
use Rattle.std.proofs.Common.{add-one, drop_of_length-le, drop-cons, take-suc, take_at, drop_at, drop-drop, length-take-le}
use borrow.Rule.Slice.PartMut.{put_mid}
use Rattle.std.proofs.lemmas.List.{set_at}
use Rattle.std.proofs.Math.Seq.{take-length, drop-append-add}
use Rattle.std.proofs.lemmas.List.Edits.{sets, sets-eq}
use Rattle.lists.specs.Lists.{up_to, range, joined, chosen}
use Rattle.lists.specs.Select.{length_up_to, length_joined}

-- entry by entry: `out` is f's first i values before what was there
fill_step : {A : Type 0} (f : ℕ → A) (old : List A) (i : ℕ) → i < length old → set (up_to f i ++ drop i old) i (f i) ≡ up_to f (i + 1) ++ drop (i + 1) old
fill_step f old i h =
    rw (add-one, drop-cons old i (f i) h)
    (set_at (up_to f i) (get_or old i (f i)) (drop (suc i) old) (f i) i (length_up_to f i) ∙ sym (append_assoc (up_to f i) (f i ∷ []) (drop (suc i) old)))

pub fill_again : {A : Type 0} (f : ℕ → A) (old out : List A) (i : ℕ) (v : A) → out ≡ up_to f i ++ drop i old → v ≡ f i → i < length old
    → set out i v ≡ up_to f (i + 1) ++ drop (i + 1) old
fill_again f old out i v e q h = rw (e, q) (fill_step f old i h)

pub fill_done : {A : Type 0} (f : ℕ → A) (old out : List A) (n i : ℕ) → out ≡ up_to f i ++ drop i old → length old ≤ i → i ≡ n → out ≡ up_to f n
fill_done f old out n i e h q =
    e ∙ (ap (λ (l : List _). up_to f i ++ l) (drop_of_length-le old h) ∙ (append-nil (up_to f i) ∙ ap (up_to f) q))

-- what was there behind the front may be read off `out` itself
pub fill_own : {A : Type 0} (f : ℕ → A) (old out : List A) (i : ℕ) → out ≡ up_to f i ++ drop i old → out ≡ up_to f i ++ drop i out
fill_own f old out i e =
    let behind : drop i out ≡ drop i old = ap (drop i) e ∙ drop_at (up_to f i) (drop i old) i (length_up_to f i) in
    e ∙ ap (λ (l : List _). up_to f i ++ l) (sym behind)

-- `sets out n cs` is `out` with cs stored from n on
pub sets_append : {A : Type 0} (xs ys l : List A) (i : ℕ) → sets (sets l i xs) (i + length xs) ys ≡ sets l i (xs ++ ys)
sets_append [] ys l i = ap (λ (k : ℕ). sets l k ys) (omega arith)
sets_append (x ∷ xs) ys l i = ap (λ (k : ℕ). sets (sets (set l i x) (suc i) xs) k ys) (omega arith) ∙ sets_append xs ys (set l i x) (suc i)

-- values stored from an index on, one more
stored_more : {A : Type 0} (f : ℕ → A) (old : List A) (at i : ℕ) → set (sets old at (up_to f i)) (at + i) (f i) ≡ sets old at (up_to f (suc i))
stored_more f old at i =
    let here : at + i ≡ at + length (up_to f i) = ap (λ (k : ℕ). at + k) (sym (length_up_to f i)) in
    rw here (sets_append (up_to f i) (f i ∷ []) old at)

pub store_again : {A : Type 0} (f : ℕ → A) (old out : List A) (at i : ℕ) (v : A) → out ≡ sets old at (up_to f i) → v ≡ f i
    → set out (at + i) v ≡ sets old at (up_to f (i + 1))
store_again f old out at i v e q = rw (e, q, add-one i) (stored_more f old at i)

pub stored_all : {A : Type 0} (f : ℕ → A) (old out : List A) (at i n : ℕ) → out ≡ sets old at (up_to f i) → i ≡ n → out ≡ sets old at (up_to f n)
stored_all f old out at i n e q = e ∙ ap (λ (k : ℕ). sets old at (up_to f k)) q

-- n values stored behind those that fill the front
pub fill_part : {A : Type 0} (f : ℕ → A) (old out : List A) (a n : ℕ) → out ≡ up_to f a ++ drop a old → a + n ≤ length old
    → sets out a (up_to (λ i. f (a + i)) n) ≡ up_to f (a + n) ++ drop (a + n) old
fill_part f old out a zero e h = rw (add-zero a) e
fill_part f old out a (suc n) e h =
    let next : a + n + 1 ≡ a + suc n = omega arith in
    sym (stored_more (λ i. f (a + i)) out a n)
    ∙ fill_again f old _ (a + n) (f (a + n)) (fill_part f old out a n e (omega arith)) refl (omega arith)
    ∙ ap (λ (k : ℕ). up_to f k ++ drop k old) next

-- part by part: a part written behind what is written already
pub part_step : (front old out part : List ℕ) (a e : ℕ) → length front ≡ a → a ≤ e → out ≡ front ++ drop a old
    → put_mid a (e - a) out part ≡ (front ++ part) ++ drop e old
part_step front old out part a e f h o =
    let before : take a out ≡ front = ap (take a) o ∙ take_at front (drop a old) a f in
    let from : drop a out ≡ drop a old = ap (drop a) o ∙ drop_at front (drop a old) a f in
    let whole : a + (e - a) ≡ e = omega arith in
    let behind : drop (e - a) (drop a out) ≡ drop e old = ap (drop (e - a)) from ∙ (drop-drop (e - a) a old ∙ ap (λ (n : ℕ). drop n old) whole) in
    rw (before, behind) (sym (append_assoc front part (drop e old)))

pub joined_append : {A : Type 0} (f : A → List ℕ) (xs ys : List A) → joined f (xs ++ ys) ≡ joined f xs ++ joined f ys
joined_append f [] ys = refl
joined_append f (x ∷ xs) ys = rw (joined_append f xs ys, append_assoc)

-- one more of the first n
pub joined_range : (f : ℕ → List ℕ) (n : ℕ) → joined f (range (suc n)) ≡ joined f (range n) ++ f n
joined_range f n = rw (joined_append f (range n) (n ∷ []), append-nil)

pub joined_map : {A B : Type 0} (f : B → List ℕ) (g : A → B) (xs : List A) → joined f (map g xs) ≡ joined (λ x. f (g x)) xs
joined_map f g [] = refl
joined_map f g (x ∷ xs) = rw (joined_map f g xs)

pub joined_more : (f : ℕ → List ℕ) (xs : List ℕ) (p : ℕ) → p < length xs → joined f (take (p + 1) xs) ≡ joined f (take p xs) ++ f (get_or xs p 0)
joined_more f xs p h = rw (add-one, take-suc xs p 0 h, joined_append f (take p xs) (get_or xs p 0 ∷ []), append-nil)

pub joined_same : (f g : ℕ → List ℕ) (n : ℕ) → ((k : ℕ) → k < n → f k ≡ g k) → joined f (range n) ≡ joined g (range n)
joined_same f g zero h = refl
joined_same f g (suc n) h =
    rw (joined_append f (range n) (n ∷ []), joined_append g (range n) (n ∷ []), joined_same f g n (λ k l. h k (omega arith)), h n (omega arith))

-- the part at q, read back
pub part_of : (f : ℕ → List ℕ) (n : ℕ) → ((x : ℕ) → length (f x) ≡ n) → (xs rest : List ℕ) (q : ℕ) → q < length xs
    → take n (drop (q * n) (joined f xs ++ rest)) ≡ f (get_or xs q 0)
part_of f n size [] rest q h = absurd (not-suc-le-zero h)
part_of f n size (x ∷ xs) rest zero h = rw (zero-mul, append_assoc) (take_at (f x) (joined f xs ++ rest) n (size x))
part_of f n size (x ∷ xs) rest (suc q) h =
    let next : suc q * n ≡ length (f x) + q * n = rw (suc-mul, size x) (omega arith) in
    rw (next, append_assoc, drop-append-add (f x) (joined f xs ++ rest) (q * n)) (part_of f n size xs rest q (le_of_suc-le-suc h))

module _ (f : ℕ → List ℕ) (n : ℕ) (size : (x : ℕ) → length (f x) ≡ n) (xs old : List ℕ) where
  front_length : (p : ℕ) → p ≤ length xs → length (joined f (take p xs)) ≡ p * n
  front_length p h = length_joined f n 0 (take p xs) (λ i l. size _) ∙ ap (λ (k : ℕ). k * n) (length-take-le p xs h)

  -- one part of length n more
  pub parts_again : (out part : List ℕ) (p : ℕ) → p < length xs → out ≡ joined f (take p xs) ++ drop (p * n) old → part ≡ f (get_or xs p 0)
      → put_mid (p * n) (p * n + n - p * n) out part ≡ joined f (take (p + 1) xs) ++ drop ((p + 1) * n) old
  parts_again out part p h o e =
      let next : (p + 1) * n ≡ p * n + n = ap (λ (k : ℕ). k * n) (add-one p) ∙ suc-mul p n in
      rw (next, joined_more f xs p h)
      (part_step (joined f (take p xs)) old out part (p * n) (p * n + n) (front_length p (omega arith)) (omega arith) o
      ∙ ap (λ (z : List ℕ). (joined f (take p xs) ++ z) ++ drop (p * n + n) old) e)

  -- all parts, and one last entry
  pub parts_last : (out : List ℕ) (p v : ℕ) → p ≡ length xs → length old ≡ length xs * n + 1 → out ≡ joined f (take p xs) ++ drop (p * n) old
      → set out (length xs * n) v ≡ joined f xs ++ (v ∷ [])
  parts_last out p v q l o =
      let all : length (joined f xs) ≡ length xs * n = length_joined f n 0 xs (λ i l. size _) in
      let o' : out ≡ joined f xs ++ drop (length xs * n) old = o ∙ (rw q (ap (λ (z : List ℕ). joined f z ++ drop (length xs * n) old) (take-length xs))) in
      let past : length old ≤ suc (length xs * n) = omega arith in
      let last : drop (length xs * n) old ≡ get_or old (length xs * n) 0 ∷ [] =
      drop-cons old (length xs * n) 0 (omega arith) ∙ ap (λ (z : List ℕ). get_or old (length xs * n) 0 ∷ z) (drop_of_length-le old past) in
      rw (o', last) (set_at (joined f xs) (get_or old (length xs * n) 0) [] v (length xs * n) all)

-- the entries that pass
pub sets_all : (xs l : List ℕ) → length xs ≡ length l → sets l 0 xs ≡ xs
sets_all xs l e =
    let past : length l ≤ 0 + length xs = omega arith in
    sets-eq xs l 0 (omega arith) ∙ (ap (λ (z : List ℕ). xs ++ z) (drop_of_length-le l past) ∙ append-nil xs)

-- one entry looked at: it is passed over, or stored
pub chosen_skip : (t : ℕ → Bool) (k i : ℕ) (roles : List ℕ) → i < length roles → t (get_or roles i 0) ≡ false
    → chosen t (k + i) (drop i roles) ≡ chosen t (k + (i + 1)) (drop (i + 1) roles)
chosen_skip t k i roles h e = rw (drop-cons roles i 0 h, e, add-one i, add-suc k i)

pub chosen_take : (t : ℕ → Bool) (k i : ℕ) (roles : List ℕ) → i < length roles → t (get_or roles i 0) ≡ true
    → chosen t (k + i) (drop i roles) ≡ (k + i) ∷ chosen t (k + (i + 1)) (drop (i + 1) roles)
chosen_take t k i roles h e = rw (drop-cons roles i 0 h, e, add-one i, add-suc k i)
