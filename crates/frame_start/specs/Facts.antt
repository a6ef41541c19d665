-- What a user of the frame start may rely on: a start lies in the list with all of its word; at one start stands one word; fewer than sixteen values
-- have no start; and of values handed over by their bits, neither a zero's sign nor what a NaN carries matters.
-- Assumes nothing.
use Rattle.std.specs.Prelude.{ℕ, ◌+◌, ◌≤◌, ◌<◌, Bool, true, false, cond, List, [], ◌∷◌, map, ◌≡◌, refl, T, Option, Some, None}
use Rattle.std.specs.Prelude.{Float, length, get_or, take, drop}
use Rattle.std.proofs.Common.{sym, ap, ◌∙◌, subst, arith, length-take, length-drop}
use Rattle.std.specs.Float.{binary32}
use Rattle.std.specs.Float.Ieee.{lt, of_bits, nan_bits}
use Rattle.std.specs.Float.Ieee.Bits.{nan_bits_is}
use Rattle.std.specs.Float.Ieee.Compare.{differs_from_itself}
use Rattle.std.proofs.lemmas.List.{length-map}
use Rattle.ieee.specs.Constants.{plus_zero}
use Rattle.ieee.specs.Order.{nan_lt, ne_self}
use Rattle.frame_start.specs.FrameStart.{word_bits, bit_of, start_at, Stands, StartTold}
use Rattle.frame_start.specs.declared.SyncWord.{SyncWord}
use Rattle.frame_start.specs.declared.SyncWord.TheVariants.{W0, W1}
use Rattle.frame_start.specs.declared.FrameStart.{FrameStart}

-- ---- starts
-- every start at which a word stands may be told
pub any_start : (soft : List Float) (f : ℕ) (w : SyncWord) → Stands soft f w → StartTold soft (Some (start_at f w))
unfolding StartTold
any_start soft f w s = s

pub word_length : (w : SyncWord) → length (word_bits w) ≡ 16
word_length W0 = refl
word_length W1 = refl

-- the sixteen values of a start are in the list
pub start_inside : (soft : List Float) (f : ℕ) (w : SyncWord) → Stands soft f w → f + 16 ≤ length soft
unfolding Stands
start_inside soft f w s =
    let bits = map bit_of soft in
    let sixteen : length (take 16 (drop f bits)) ≡ 16 = ap length s ∙ word_length w in
    omega (arith, sixteen, length-take 16 (drop f bits), length-drop f bits, length-map soft bit_of)

-- at one start both words cannot stand
pub one_word : (soft : List Float) (f : ℕ) (w v : SyncWord) → Stands soft f w → Stands soft f v → w ≡ v
unfolding Stands
one_word soft f W0 W0 s t = refl
one_word soft f W1 W1 s t = refl
one_word soft f W0 W1 s t = absurd (let first : 0 ≡ 1 = ap (λ (bs : List ℕ). get_or bs 0 0) (sym s ∙ t) in omega arith)
one_word soft f W1 W0 s t = absurd (let first : 1 ≡ 0 = ap (λ (bs : List ℕ). get_or bs 0 0) (sym s ∙ t) in omega arith)

-- of fewer than sixteen values "no start" is told, and nothing else
pub too_short : (soft : List Float) → length soft < 16 → StartTold soft None
unfolding StartTold
too_short soft h f w s = omega (arith, start_inside soft f w s)

pub too_short_only : (soft : List Float) (r : Option FrameStart) → length soft < 16 → StartTold soft r → r ≡ None
unfolding StartTold
too_short_only soft (Some s) h t = absurd (omega (arith, start_inside soft s.start s.word t))
too_short_only soft None h t = refl

-- ---- values
-- what is told depends on the bits alone
pub told_alike : (xs ys : List Float) → map bit_of xs ≡ map bit_of ys → (r : Option FrameStart) → StartTold xs r → StartTold ys r
unfolding StartTold Stands
told_alike xs ys e (Some s) t = ap (λ (bs : List ℕ). take 16 (drop s.start bs)) (sym e) ∙ t
told_alike xs ys e None t = λ f w s. t f w (ap (λ (bs : List ℕ). take 16 (drop f bs)) e ∙ s)

-- ---- values by their bits, as a caller hands them over: zeros of both signs read as 0, and so does every NaN
abbrev pub zero_pattern : Bool → ℕ
zero_pattern s = cond s 0x8000_0000 0

pub zero_bit : (s : Bool) → bit_of (of_bits binary32 (zero_pattern s)) ≡ 0
unfolding bit_of lt of_bits
zero_bit true = refl
zero_bit false = refl

pub nan_bit : (pattern : ℕ) → nan_bits binary32 pattern ≡ true → bit_of (of_bits binary32 pattern) ≡ 0
unfolding bit_of
nan_bit pattern h =
    let differs = ne_self (of_bits binary32 pattern) ∙ sym (nan_bits_is binary32 pattern) ∙ h in
    rw (differs_from_itself (of_bits binary32 pattern) (subst T (sym differs) tt), nan_lt (plus_zero binary32))

-- two bit patterns of one value, but for a zero's sign and for what a NaN carries; and lists of them, place by place
pub data Alike (p q : ℕ) : Type 0 where
  same : p ≡ q → Alike p q
  zeros : (s t : Bool) → p ≡ zero_pattern s → q ≡ zero_pattern t → Alike p q
  nans : nan_bits binary32 p ≡ true → nan_bits binary32 q ≡ true → Alike p q

abbrev pub AllAlike : List ℕ → List ℕ → Type 0
AllAlike [] [] = Unit {0}
AllAlike [] (q ∷ qs) = ⊥
AllAlike (p ∷ ps) [] = ⊥
AllAlike (p ∷ ps) (q ∷ qs) = Alike p q × AllAlike ps qs

abbrev pub values : List ℕ → List Float
values patterns = map (of_bits binary32) patterns

alike_bit : (p q : ℕ) → Alike p q → bit_of (of_bits binary32 p) ≡ bit_of (of_bits binary32 q)
alike_bit p q (same e) = rw e
alike_bit p q (zeros s t e d) = rw (e, d) (zero_bit s ∙ sym (zero_bit t))
alike_bit p q (nans h g) = nan_bit p h ∙ sym (nan_bit q g)

alike_bits : (ps qs : List ℕ) → AllAlike ps qs → map bit_of (values ps) ≡ map bit_of (values qs)
alike_bits [] [] h = refl
alike_bits [] (q ∷ qs) h = absurd h
alike_bits (p ∷ ps) [] h = absurd h
alike_bits (p ∷ ps) (q ∷ qs) h = rw (alike_bit p q h.0, alike_bits ps qs h.1)

-- of such lists the same is told
pub patterns_alike : (ps qs : List ℕ) → AllAlike ps qs → (r : Option FrameStart) → StartTold (values ps) r → StartTold (values qs) r
patterns_alike ps qs h = told_alike (values ps) (values qs) (alike_bits ps qs h)
