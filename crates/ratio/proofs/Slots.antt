-- Bins copied into slots: two pairs more of a slot, two symbols or one more of every slot; and a slot has the pairs of the bin that was copied.
-- Assumes nothing.
use Prim.Native.Nat.{ℕ, ◌+◌, ◌-◌, ◌*◌, ◌/◌, ◌%◌, ◌≤◌, ◌<◌}
use mathlib.Core.List.{List, ◌++◌}
use mathlib.Core.Path.{◌≡◌, refl, sym, ap, ◌∙◌}
use native.Mathlib.Decide.{dec_lt}
use native.Mathlib.Omega.{arith}
use lib.Arith.{digits_div, digits_mod}
use lib.Ieee.{Float, nan}
use lib.ListN.{length, take, drop, get_or}
use lib.Seq.{sets, sets-eq, drop-drop}
use borrow.Rule.Slice.PartMut.{put_mid}
use Rattle.std.specs.Prelude.{min}
use Rattle.std.proofs.Common.{append_assoc}
use Rattle.std.proofs.lemmas.List.{get_or-drop, length-drop, length-take-le}
use Rattle.lists.specs.Lists.{up_to}
use Rattle.lists.specs.Fill.{fill_done, fill_part}
use Rattle.lists.specs.Select.{length_up_to, up_to_same}
use Rattle.complex.specs.Complex.{Pair, pair}
use Rattle.spectra.specs.Spectra.{pair_at, with_pair, column}
use Rattle.spectra.specs.Flat.{length_with, pair_with_same, pair_with_other, column_is}
use Rattle.ratio.specs.declared.BinBlock.{BinBlock}
use Rattle.ratio.specs.Ratio.{ratio_of}
use Rattle.ratio.specs.Inner.{Spread, Gathered}

-- ---- slots
-- different pairs of slots are apart: where pair t of slot i stands, no other pair does
pub slots_apart : (slot i k t u : ℕ) → t < slot → u < slot → i * slot + t ≡ k * slot + u → (i ≡ k) × (t ≡ u)
slots_apart slot i k t u l m e = (
  sym (digits_div i l) ∙ ap (λ (n : ℕ). n / slot) e ∙ digits_div k m,
  sym (digits_mod i l) ∙ ap (λ (n : ℕ). n % slot) e ∙ digits_mod k m,
)

-- ---- slot by slot
-- a flat list with x and y for its pairs k and k + 1
abbrev with_two : List Float → ℕ → Pair → Pair → List Float
with_two xs k x y = with_pair (with_pair xs k x) (k + 1) y

-- the pairs t and t + 1 of slot n, stored behind those of the n slots before it
pub spread_again : (xs : List Float) (at next n slot t : ℕ) (old ys zs new : List Float) (to : ℕ) (x y : Pair)
    → t + 1 < slot → to ≡ n * slot + t → 2 * (to + 1) + 1 < length ys → zs ≡ with_pair ys to x → new ≡ with_pair zs (to + 1) y
    → x ≡ pair_at xs (at + n) → y ≡ pair_at xs (next + n) → Spread xs at next n slot t old ys → Spread xs at next (n + 1) slot t old new
spread_again xs at next n slot t old ys zs new to x y inside here room first second ex ey h =
    rw (second, first)
    record {
      one = λ i l. left i (dec_lt i n) l;
      two = λ i l. right i (dec_lt i n) l;
      before = λ i u l. other i u (omega arith) (λ a b. omega arith) ∙ h.before i u l;
    }
  where
    -- a pair of another slot, and one before pair t of slot n, stays
    other : (i u : ℕ) → u < slot → (i ≡ n → t ≤ u → ⊥) → pair_at (with_two ys to x y) (i * slot + u) ≡ pair_at ys (i * slot + u)
    other i u l a =
        pair_with_other (with_pair ys to x) (to + 1) (i * slot + u) y (λ e.
        let s = slots_apart slot i n u (t + 1) l inside (omega arith) in a s.0 (omega arith))
        ∙ pair_with_other ys to (i * slot + u) x (λ e. let s = slots_apart slot i n u t l (omega arith) (omega arith) in a s.0 (omega arith))

    left : (i : ℕ) → Dec (i < n) → i < n + 1 → pair_at (with_two ys to x y) (i * slot + t) ≡ pair_at xs (at + i)
    left i (yes l) g = other i t (omega arith) (λ a b. omega arith) ∙ h.one i l
    left i (no l) g =
        let z : i ≡ n = omega arith in
        rw (z, ← here) (pair_with_other (with_pair ys to x) (to + 1) to y (λ e. omega arith) ∙ pair_with_same ys to x (omega arith) ∙ ex)

    right : (i : ℕ) → Dec (i < n) → i < n + 1 → pair_at (with_two ys to x y) (i * slot + (t + 1)) ≡ pair_at xs (next + i)
    right i (yes l) g = other i (t + 1) inside (λ a b. omega arith) ∙ h.two i l
    right i (no l) g =
        let z : i ≡ n = omega arith in
        let after : n * slot + (t + 1) ≡ to + 1 = omega arith in
        rw (z, after) (pair_with_same (with_pair ys to x) (to + 1) y (rw (length_with ys to x) room) ∙ ey)

-- pair i from pair k on
pub pair_from : (xs : List Float) (k i : ℕ) → pair_at (drop (2 * k) xs) i ≡ pair_at xs (k + i)
pair_from xs k i =
    let place : 2 * k + 2 * i ≡ 2 * (k + i) = omega arith in
    let re = get_or-drop (2 * k) xs (2 * i) nan ∙ ap (λ n. get_or xs n nan) place in
    let im = get_or-drop (2 * k) xs (2 * i + 1) nan ∙ ap (λ n. get_or xs n nan) (omega (arith, place)) in
    λ z. pair (re z) (im z)

-- ---- symbol by symbol
-- one symbol more, whatever stands behind it in the slots
pub gather_one : (xs : List Float) (len : ℕ) (bins : BinBlock) (n next : ℕ) (old new : List Float)
    → Gathered xs len bins n old → Spread xs (bins.first + n * len) next bins.width bins.slot n old new → Gathered xs len bins (n + 1) new
gather_one xs len bins n next old new h c = record { pairs = λ i t m l. by i t m (dec_lt t n) l }
  where
    by : (i t : ℕ) → i < bins.width → Dec (t < n) → t < n + 1 → pair_at new (i * bins.slot + t) ≡ pair_at xs (t * len + (bins.first + i))
    by i t m (yes l) g = c.before i t l ∙ h.pairs i t m l
    by i t m (no l) g =
        let z : t ≡ n = omega arith in
        let from : bins.first + n * len + i ≡ n * len + (bins.first + i) = omega arith in
        rw (z, ← from) (c.one i m)

-- two symbols more
pub gather_two : (xs : List Float) (len : ℕ) (bins : BinBlock) (n : ℕ) (old new : List Float) → Gathered xs len bins n old
    → Spread xs (bins.first + n * len) (bins.first + (n + 1) * len) bins.width bins.slot n old new → Gathered xs len bins (n + 2) new
gather_two xs len bins n old new h c = record { pairs = λ i t m l. by i t m (dec_lt t (n + 1)) l }
  where
    by : (i t : ℕ) → i < bins.width → Dec (t < n + 1) → t < n + 2 → pair_at new (i * bins.slot + t) ≡ pair_at xs (t * len + (bins.first + i))
    by i t m (yes l) g = (gather_one xs len bins n _ old new h c).pairs i t m l
    by i t m (no l) g =
        let z : t ≡ n + 1 = omega arith in
        let from : bins.first + (n + 1) * len + i ≡ (n + 1) * len + (bins.first + i) = omega arith in
        rw (z, ← from) (c.two i m)

-- the last two symbols, or a last one that stands alone
pub gather_last : (xs : List Float) (len : ℕ) (bins : BinBlock) (n next : ℕ) (old new : List Float) → n < bins.count → bins.count ≤ n + 2
    → next ≡ min (n + 1) (bins.count - 1) → Gathered xs len bins n old
    → Spread xs (bins.first + n * len) (bins.first + next * len) bins.width bins.slot n old new → Gathered xs len bins bins.count new
gather_last xs len bins n next old new some few e h c = by (dec_lt (n + 1) bins.count)
  where
    by : Dec (n + 1 < bins.count) → Gathered xs len bins bins.count new
    by (yes l) =
        let behind : next ≡ n + 1 = omega arith in
        let all : n + 2 ≡ bins.count = omega arith in
        rw all at (gather_two xs len bins n old new h (rw behind at c))
    by (no l) =
        let all : n + 1 ≡ bins.count = omega arith in
        rw all at (gather_one xs len bins n _ old new h c)

-- ---- a bin of the copy
-- slot i has the pairs of its bin, in symbol order
pub gathered_column : (xs : List Float) (len : ℕ) (bins : BinBlock) (n : ℕ) (block : List Float) (i : ℕ) → i < bins.width
    → Gathered xs len bins n block → column block 1 (i * bins.slot) n ≡ column xs len (bins.first + i) n
gathered_column xs len bins n block i m h =
    column_is block 1 (i * bins.slot) n ∙ up_to_same _ _ n (λ t l. same t ∙ h.pairs i t m l) ∙ sym (column_is xs len (bins.first + i) n)
  where
    same : (t : ℕ) → pair_at block (t * 1 + i * bins.slot) ≡ pair_at block (i * bins.slot + t)
    same t = ap (pair_at block) (omega arith)

-- ---- a part of a list that is written from its front, once it is written to its end
pub put_part : (f : ℕ → Float) (out part : List Float) (a n i : ℕ) → let old = take (a + n - a) (drop a out) in
    a + n ≤ length out → part ≡ up_to f i ++ drop i old → i ≤ length old → length old ≤ i → put_mid a (a + n - a) out part ≡ sets out a (up_to f n)
put_part f out part a n i room front few end =
    let old = take (a + n - a) (drop a out) in
    let long : length old ≡ n = length-take-le (a + n - a) (drop a out) (rw (length-drop a out) (omega arith)) ∙ omega arith in
    let e : part ≡ up_to f n = fill_done f old part n i front end (omega arith) in
    let size : a + n - a ≡ n = omega arith in
    let all : length (up_to f n) ≡ n = length_up_to f n in
    rw (e, size, sets-eq (up_to f n) out a (rw all room), all, drop-drop n a out, append_assoc) refl

-- ---- the ratios of the copied bins, stored behind those before them
pub block_more : (xs : List Float) (len : ℕ) (bins : BinBlock) (block old out new : List Float)
    → Gathered xs len bins bins.count block → bins.first + bins.width ≤ length old
    → out ≡ up_to (λ b. ratio_of (column xs len b bins.count)) bins.first ++ drop bins.first old
    → new ≡ sets out bins.first (up_to (λ i. ratio_of (column block 1 (i * bins.slot) bins.count)) bins.width)
    → new ≡ up_to (λ b. ratio_of (column xs len b bins.count)) (bins.first + bins.width) ++ drop (bins.first + bins.width) old
block_more xs len bins block old out new h room e w =
    let n = bins.count in
    let f : ℕ → Float = λ b. ratio_of (column xs len b n) in
    let same : up_to (λ i. ratio_of (column block 1 (i * bins.slot) n)) bins.width ≡ up_to (λ i. f (bins.first + i)) bins.width =
    up_to_same _ _ bins.width (λ i m. ap ratio_of (gathered_column xs len bins n block i m h)) in
    w ∙ ap (sets out bins.first) same ∙ fill_part f old out bins.first bins.width e room
