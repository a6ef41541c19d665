-- The register of the last sixteen bits, carried from value to value: a word stands where the register holds its number, and nowhere else.
-- Assumes nothing.
use Prim.Native.Nat.{ℕ, ◌+◌, ◌*◌, ◌%◌, ◌-◌, ◌≤◌, ◌<◌}
use mathlib.Core.List.{List, [], ◌∷◌, map}
use mathlib.Core.Logic.{◌⊎◌, inl, inr}
use mathlib.Core.Path.{◌≡◌, refl, sym, ap, ◌∙◌}
use Rattle.std.proofs.Common.{Some, None}
use Rattle.std.specs.List.{fold, take-map}
use Rattle.std.proofs.Common.{get_or-drop, take_all}
use native.Mathlib.Omega.{arith}
use native.Mathlib.Nat.{le_of_suc-le-suc, eq-or-lt_of_le}
use native.Mathlib.Numerals.{add-one}
use lib.Arith.{digits_mod}
use lib.Ieee.{Float}
use lib.ListN.{length, get_or, take, drop, length-map, length-drop, get_or-map}
use lib.Seq.{take-suc, take-add, length-take-le}
use Rattle.frame_start.specs.FrameStart.{bit_of, word_bits, start_at, Stands, StartTold}
use Rattle.frame_start.specs.Inner.{behind, shifted_in, register}
use Rattle.frame_start.specs.Facts.{word_length, start_inside}
use Rattle.frame_start.specs.declared.SyncWord.{SyncWord}
use Rattle.frame_start.specs.declared.SyncWord.TheVariants.{W0, W1}
use Rattle.frame_start.proofs.Bits.{behind_append, behind_front, behind_below, same_bits}
use Rattle.frame_start.proofs.Bits.{bit_below, read_bits, word_bits_lem, take_bits, drop_bits}

shifted_mod : (n b : ℕ) → b < 2 → shifted_in (n % 65536) b ≡ (n * 2 + b) % 65536
shifted_mod n b h = omega arith

-- the fold over values, each shifted in
folded : (n : ℕ) (vs : List Float) → fold (λ bits v. shifted_in bits (bit_of v)) (n % 65536) vs ≡ behind n (map bit_of vs) % 65536
folded n [] = refl
folded n (v ∷ vs) = rw (shifted_mod n (bit_of v) (bit_below v)) (folded (n * 2 + bit_of v) vs)

folded_first : (i : ℕ) (soft : List Float) → fold (λ bits v. shifted_in bits (bit_of v)) 0 (take i soft) ≡ register soft i
unfolding register
folded_first i soft = rw (take-map bit_of i soft) (folded 0 (take i soft))

module _ (soft : List Float) where
  abbrev read : List ℕ
  read = map bit_of soft

  -- one value more
  pub register_next : (i : ℕ) (d : Float) → i < length soft → shifted_in (register soft i) (bit_of (get_or soft i d)) ≡ register soft (i + 1)
  unfolding register
  register_next i d h =
      let inside : i < length read = rw (length-map soft bit_of) h in
      rw (add-one i, take-suc read i (bit_of d) inside, behind_append 0 (take i read) (get_or read i (bit_of d) ∷ []), get_or-map bit_of soft i d)
      (shifted_mod (behind 0 (take i read)) (bit_of (get_or soft i d)) (bit_below (get_or soft i d)))

  module _ (f : ℕ) (h : f + 16 ≤ length soft) where
    -- the values from f to f + 15
    abbrev last : List ℕ
    last = take 16 (drop f read)

    sixteen : length last ≡ 16
    sixteen = length-take-le 16 (drop f read) (omega (arith, length-drop f read, length-map soft bit_of))

    -- once there are sixteen, the number of the last sixteen
    register_last : register soft (f + 16) ≡ behind 0 last
    unfolding register
    register_last =
        let front = behind 0 (take f read) in
        let below : behind 0 last < 65536 = rw sixteen at (behind_below last (take_bits 16 (drop f read) (drop_bits f read (read_bits soft)))) in
        let whole : behind front last ≡ front * 65536 + behind 0 last = rw sixteen at (behind_front front last) in
        rw (take-add f 16 read, behind_append 0 (take f read) last, whole) (digits_mod front below)

    pub holds_word : (w : SyncWord) → register soft (f + 16) ≡ behind 0 (word_bits w) → Stands soft f w
    unfolding Stands
    holds_word w e =
        let bits = take_bits 16 (drop f read) (drop_bits f read (read_bits soft)) in
        (same_bits last (word_bits w) 0 0 (sixteen ∙ sym (word_length w)) bits (word_bits_lem w) (sym register_last ∙ e)).bits

  word_held : (f : ℕ) (w : SyncWord) → Stands soft f w → register soft (f + 16) ≡ behind 0 (word_bits w)
  unfolding Stands
  word_held f w s = register_last f (start_inside soft f w s) ∙ ap (behind 0) s

-- ---- the search: at f the register holds the fifteen bits from f on, and at no start before stands a word
pub record Searched (soft : List Float) (bits f : ℕ) : Type 0 where
  pub inside : f ≤ length soft
  pub held : bits ≡ register soft (f + 15)
  pub none : (g : ℕ) (w : SyncWord) → g < f → Stands soft g w → ⊥

pub begin : (soft : List Float) (bits : ℕ) → bits ≡ fold (λ bits v. shifted_in bits (bit_of v)) 0 (take 15 soft) → Searched soft bits 0
begin soft bits e = record { inside = omega arith; held = e ∙ folded_first 15 soft; none = λ g w l s. omega arith }

pub end : (soft : List Float) (bits f : ℕ) → Searched soft bits f → length soft - 15 ≤ f → StartTold soft None
unfolding StartTold
end soft bits f c h g w s = c.none g w (omega (arith, start_inside soft g w s)) s

-- the value f + 15 comes in
module _ (soft : List Float) (bits f b : ℕ) (d : Float) (c : Searched soft bits f) (h : f + 15 < length soft)
    (e : b ≡ shifted_in bits (bit_of (get_or soft (f + 15) d))) where
  held : b ≡ register soft (f + 16)
  held = let next : f + 15 + 1 ≡ f + 16 = omega arith in e ∙ rw c.held (rw next at (register_next soft (f + 15) d h))

  pub word_found : (w : SyncWord) → b ≡ behind 0 (word_bits w) → StartTold soft (Some (start_at f w))
  unfolding StartTold
  word_found w q = holds_word soft f (omega arith) w (sym held ∙ q)

  pub no_word : (b ≡ behind 0 (word_bits W0) → ⊥) → (b ≡ behind 0 (word_bits W1) → ⊥) → Searched soft b (f + 1)
  no_word n0 n1 =
      let next : f + 1 + 15 ≡ f + 16 = omega arith in
      record { inside = omega arith; held = rw next held; none = λ g w l s. by g w s (eq-or-lt_of_le (le_of_suc-le-suc (rw (add-one f) at l))) }
    where
      neither : (w : SyncWord) → b ≡ behind 0 (word_bits w) → ⊥
      neither W0 = n0
      neither W1 = n1

      by : (g : ℕ) (w : SyncWord) → Stands soft g w → (g ≡ f) ⊎ (g < f) → ⊥
      by g w s (inl q) = neither w (held ∙ rw (← q) (word_held soft g w s))
      by g w s (inr l) = c.none g w l s

-- ---- the values from the sixteenth on: the one at f ends the sixteen that start there
pub record Turn (soft : List Float) (bits f b : ℕ) (d : Float) : Type 0 where
  pub inside : f + 15 < length soft
  pub read : b ≡ shifted_in bits (bit_of (get_or soft (f + 15) d))

module _ (soft rest : List Float) (r : rest ≡ take (length soft - 15) (drop 15 soft)) where
  all_behind : rest ≡ drop 15 soft
  all_behind = r ∙ take_all (length soft - 15) (drop 15 soft) (omega (arith, length-drop 15 soft))

  pub turn : (bits f b : ℕ) (d : Float) → f < length rest → b ≡ shifted_in bits (bit_of (get_or rest f d)) → Turn soft bits f b d
  turn bits f b d h e =
      let within : f < length (drop 15 soft) = rw all_behind at h in
      let place : 15 + f ≡ f + 15 = omega arith in
      record { inside = omega (arith, within, length-drop 15 soft); read = rw (all_behind, get_or-drop 15 soft f d, place) at e }

  pub word_ends : (bits f b : ℕ) (d : Float) → Searched soft bits f → f < length rest → b ≡ shifted_in bits (bit_of (get_or rest f d))
      → (w : SyncWord) → b ≡ behind 0 (word_bits w) → StartTold soft (Some (start_at f w))
  word_ends bits f b d c h e = let t = turn bits f b d h e in word_found soft bits f b d c t.inside t.read

  pub passed : (f : ℕ) → length rest ≤ f → length soft - 15 ≤ f
  passed f h = omega (arith, ap length all_behind, length-drop 15 soft)
