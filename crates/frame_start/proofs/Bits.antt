-- Bits and the number that they spell, the first highest: as many bits that spell the same number are the same bits. What values read as, and the
-- words, are bits.
-- Assumes nothing.
use Prim.Native.Nat.{ℕ, zero, suc, ◌+◌, ◌*◌, ◌^◌, ◌≤◌, ◌<◌}
use mathlib.Core.Bool.{Bool, true, false, cond}
use mathlib.Core.List.{List, [], ◌∷◌, ◌++◌, map}
use mathlib.Core.Path.{◌≡◌, refl}
use native.Mathlib.Omega.{arith}
use native.Mathlib.Nat.{mul-le-mul_right, pow-suc}
use lib.Ieee.{Float, binary32, lt}
use lib.ListN.{length, take, drop}
use Rattle.ieee.specs.Constants.{plus_zero}
use Rattle.frame_start.specs.FrameStart.{bit_of, word_bits}
use Rattle.frame_start.specs.Inner.{behind}
use Rattle.frame_start.specs.declared.SyncWord.{SyncWord}
use Rattle.frame_start.specs.declared.SyncWord.TheVariants.{W0, W1}

-- ---- bits, and the number that they spell behind those of another one
abbrev pub AreBits : List ℕ → Type 0
AreBits [] = Unit {0}
AreBits (b ∷ bs) = (b < 2) × AreBits bs

pub behind_append : (n : ℕ) (bs cs : List ℕ) → behind n (bs ++ cs) ≡ behind (behind n bs) cs
behind_append n [] cs = refl
behind_append n (b ∷ bs) cs = behind_append (n * 2 + b) bs cs

-- what is in front is moved up by as many places
pub behind_front : (n : ℕ) (bs : List ℕ) → behind n bs ≡ n * 2 ^ length bs + behind 0 bs
behind_front n [] = omega arith
behind_front n (b ∷ bs) = rw (pow-suc 2 (length bs)) (omega (arith, behind_front (n * 2 + b) bs, behind_front (0 * 2 + b) bs))

-- nothing reaches further up
pub behind_below : (bs : List ℕ) → AreBits bs → behind 0 bs < 2 ^ length bs
behind_below [] h = omega arith
behind_below (b ∷ bs) h =
    let up : b * 2 ^ length bs ≤ 1 * 2 ^ length bs = mul-le-mul_right (2 ^ length bs) (omega (arith, h.0)) in
    omega (arith, up, pow-suc 2 (length bs), behind_front (0 * 2 + b) bs, behind_below bs h.1)

-- as many bits that are the same number are the same bits
pub record SameBits (n m : ℕ) (bs cs : List ℕ) : Type 0 where
  pub front : n ≡ m
  pub bits : bs ≡ cs

pub same_bits : (bs cs : List ℕ) (n m : ℕ) → length bs ≡ length cs → AreBits bs → AreBits cs → behind n bs ≡ behind m cs → SameBits n m bs cs
same_bits [] [] n m l h g e = record { front = e; bits = refl }
same_bits [] (c ∷ cs) n m l h g e = absurd (omega arith)
same_bits (b ∷ bs) [] n m l h g e = absurd (omega arith)
same_bits (b ∷ bs) (c ∷ cs) n m l h g e =
    let r = same_bits bs cs (n * 2 + b) (m * 2 + c) (omega arith) h.1 g.1 e in
    let same : b ≡ c = omega (arith, r.front, h.0, g.0) in
    record { front = omega (arith, r.front, h.0, g.0); bits = rw (same, r.bits) }

-- ---- values and words read as bits
pub bit_below : (v : Float) → bit_of v < 2
unfolding bit_of
bit_below v = by (lt v (plus_zero binary32))
  where
    by : (t : Bool) → cond t 1 0 < 2
    by true = omega arith
    by false = omega arith

pub read_bits : (vs : List Float) → AreBits (map bit_of vs)
read_bits [] = tt
read_bits (v ∷ vs) = (bit_below v, read_bits vs)

pub word_bits_lem : (w : SyncWord) → AreBits (word_bits w)
word_bits_lem W0 = omega arith
word_bits_lem W1 = omega arith

pub take_bits : (n : ℕ) (bs : List ℕ) → AreBits bs → AreBits (take n bs)
take_bits zero bs h = tt
take_bits (suc n) [] h = tt
take_bits (suc n) (b ∷ bs) h = (h.0, take_bits n bs h.1)

pub drop_bits : (n : ℕ) (bs : List ℕ) → AreBits bs → AreBits (drop n bs)
drop_bits zero bs h = h
drop_bits (suc n) [] h = tt
drop_bits (suc n) (b ∷ bs) h = drop_bits n bs h.1
