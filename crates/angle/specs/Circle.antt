-- Laws of the angle of whole numbers: what a quarter turn, a mirror and another unit do to it, its range, and the axes and diagonals. No float occurs
-- here, and of the table nothing is used but that slope 0 has angle 0 and slope 1 has 8192.
-- Assumes nothing.
use Rattle.std.specs.Prelude.{Bool, not, cond, ◌⊎◌, ◌≡◌, refl, ℕ, zero, suc, ◌+◌, ◌-◌, ◌*◌, ◌/◌, ◌%◌, ◌≤◌, ◌<◌, leb, eqb, ℤ, pos, negsuc, ◌+ℤ◌}
use Rattle.std.proofs.Math.Bool.{true, false}
use Rattle.std.proofs.Common.{inl, inr, sym, ap, ◌∙◌, subst, mul_right_comm}
use Rattle.std.proofs.Common.{mul-le-mul_right, mul-lt-mul_of_pos_right, add-mul, arith, le-leb, lt-ltb, le-ltb, ne_eqb}
use Rattle.std.proofs.Math.Nat.{mul-div-mul_right, mul-div_cancel_left, zero-div}
use Rattle.std.proofs.lemmas.Bool.{lt-leb}
use Rattle.ieee.specs.Numbers.{split, zero_scale}
use Rattle.angle.specs.Angle.{slope, octant, quarter, mirror, around, signed, round_circle, mirrored, AngleRange}
use Rattle.angle.specs.Table.{octant_zero, octant_one, octant_most}

-- ---- a quarter of the circle
pub quarter_low : (a b : ℕ) → b ≤ a → quarter a b ≡ octant (slope a b)
unfolding quarter
quarter_low a b h = rw (le-leb b a h)

pub quarter_high : (a b : ℕ) → a < b → quarter a b ≡ 16384 - octant (slope b a)
unfolding quarter
quarter_high a b h = rw (lt-leb b a h)

quarter_most : (a b : ℕ) → quarter a b ≤ 16384
quarter_most a b = go (split a b)
  where
    go : (a < b) ⊎ (b ≤ a) → quarter a b ≤ 16384
    go (inl l) = rw (quarter_high a b l) (omega arith)
    go (inr l) = rw (quarter_low a b l) (omega (arith, octant_most (slope a b)))

-- on the diagonal both ways give the same
quarter_same : (a : ℕ) → 0 < a → quarter a a ≡ 8192
quarter_same a h = quarter_low a a (omega arith) ∙ ap octant (mul-div_cancel_left 4194304 h) ∙ octant_one

quarter_swap : (a b : ℕ) → 0 < a + b → quarter b a ≡ 16384 - quarter a b
quarter_swap a b h = go (split a b) (split b a)
  where
    back : (o : ℕ) → o ≤ 8192 → o ≡ 16384 - (16384 - o)
    back o l = omega arith

    go : (a < b) ⊎ (b ≤ a) → (b < a) ⊎ (a ≤ b) → quarter b a ≡ 16384 - quarter a b
    go (inl l) k = rw (quarter_high a b l, quarter_low b a (omega arith)) (back (octant (slope b a)) (octant_most (slope b a)))
    go (inr l) (inl k) = rw (quarter_low a b l, quarter_high b a k)
    go (inr l) (inr k) =
        let e : b ≡ a = omega arith in
        subst (λ (c : ℕ). quarter c a ≡ 16384 - quarter a c) (sym e) (rw (quarter_same a (omega arith)))

-- ---- round the circle
pub around_some : (s : Bool) (a : ℕ) (t : Bool) (b : ℕ) → 0 < a + b → around s a t b ≡ mirror t 65536 (mirror s 32768 (quarter a b))
unfolding around
around_some s a t b h = rw (ne_eqb (a + b) 0 (λ (e : a + b ≡ 0). omega arith))

pub around_none : (s t : Bool) → around s 0 t 0 ≡ 0
unfolding around
around_none s t = refl

pub half_most : (s : Bool) (q : ℕ) → q ≤ 16384 → mirror s 32768 q ≤ 32768
half_most false q h = omega arith
half_most true q h = omega arith

whole_most : (t : Bool) (h : ℕ) → h ≤ 32768 → mirror t 65536 h < 65536
whole_most false h l = omega arith
whole_most true h l = omega arith

-- whatever holds of 0 and of the whole circle's angle
module _ (P : ℕ → Type 0) (s : Bool) (a : ℕ) (t : Bool) (b : ℕ) where
  by_cases : P 0 → P (mirror t 65536 (mirror s 32768 (quarter a b))) → P (around s a t b)
  unfolding around
  by_cases h k = go (eqb (a + b) 0)
    where
      go : (z : Bool) → P (cond z 0 (mirror t 65536 (mirror s 32768 (quarter a b))))
      go true = h
      go false = k

pub around_most : (s : Bool) (a : ℕ) (t : Bool) (b : ℕ) → around s a t b < 65536
around_most s a t b =
    by_cases (λ c. c < 65536) s a t b (omega arith) (whole_most t (mirror s 32768 (quarter a b)) (half_most s (quarter a b) (quarter_most a b)))

-- a quarter turn: (±a, ±b) becomes (∓b, ±a)
pub around_turn : (s t : Bool) (a b : ℕ) → 0 < a + b → around (not t) b s a ≡ (around s a t b + 16384) % 65536
around_turn s t a b h =
    around_some (not t) b s a (omega arith)
    ∙ ap (λ (q : ℕ). mirror s 65536 (mirror (not t) 32768 q)) (quarter_swap a b h)
    ∙ turn s t (quarter a b) (quarter_most a b)
    ∙ ap (λ (c : ℕ). (c + 16384) % 65536) (sym (around_some s a t b h))
  where
    turn : (s t : Bool) (q : ℕ) → q ≤ 16384 → mirror s 65536 (mirror (not t) 32768 (16384 - q)) ≡ (mirror t 65536 (mirror s 32768 q) + 16384) % 65536
    turn false false q h = omega arith
    turn false true q h = omega arith
    turn true false q h = omega arith
    turn true true q h = omega arith

-- the other sign of the imaginary part
pub around_mirror : (s t : Bool) (a b : ℕ) → around s a (not t) b ≡ (65536 - around s a t b) % 65536
unfolding around
around_mirror s t a b = go (eqb (a + b) 0)
  where
    other : (t : Bool) (h : ℕ) → h ≤ 32768 → mirror (not t) 65536 h ≡ (65536 - mirror t 65536 h) % 65536
    other false h l = refl
    other true h l = omega arith

    go : (z : Bool) → let h = mirror s 32768 (quarter a b) in cond z 0 (mirror (not t) 65536 h) ≡ (65536 - cond z 0 (mirror t 65536 h)) % 65536
    go true = refl
    go false = other t (mirror s 32768 (quarter a b)) (half_most s (quarter a b) (quarter_most a b))

-- ---- any unit will do
leb_scale : (a b c : ℕ) → 0 < c → leb (a * c) (b * c) ≡ leb a b
leb_scale a b c C = go (split b a)
  where
    go : (b < a) ⊎ (a ≤ b) → leb (a * c) (b * c) ≡ leb a b
    go (inl l) = rw (lt-leb a b l, lt-leb (a * c) (b * c) (mul-lt-mul_of_pos_right l C))
    go (inr l) = rw (le-leb a b l, le-leb (a * c) (b * c) (mul-le-mul_right c l))

slope_scale : (a b c : ℕ) → 0 < c → slope (a * c) (b * c) ≡ slope a b
slope_scale a b c C = ap (λ (z : ℕ). z / (a * c)) (mul_right_comm b c 4194304) ∙ mul-div-mul_right (b * 4194304) a C

pub around_scale : (s : Bool) (a : ℕ) (t : Bool) (b c : ℕ) → 0 < c → around s (a * c) t (b * c) ≡ around s a t b
unfolding around quarter
around_scale s a t b c C =
    ap (λ (z : ℕ). cond (eqb z 0) 0 (mirror t 65536 (mirror s 32768 (quarter (a * c) (b * c))))) (sym (add-mul a b c))
    ∙ rw (zero_scale (a + b) c C, leb_scale b a c C, slope_scale a b c C, slope_scale b a c C)

-- ---- axes and diagonals
quarter_real : (a : ℕ) → quarter a 0 ≡ 0
quarter_real a = quarter_low a 0 (omega arith) ∙ ap octant (zero-div a) ∙ octant_zero

quarter_imaginary : (b : ℕ) → 0 < b → quarter 0 b ≡ 16384
quarter_imaginary b h = quarter_high 0 b h ∙ ap (λ (q : ℕ). 16384 - octant q) (zero-div b) ∙ ap (λ (q : ℕ). 16384 - q) octant_zero

-- the four pairs of signs
module _ (P : Bool → Bool → Type 0) (pp : P false false) (pm : P false true) (mp : P true false) (mm : P true true) where
  all_signs : (s t : Bool) → P s t
  all_signs false false = pp
  all_signs false true = pm
  all_signs true false = mp
  all_signs true true = mm

-- an angle of the quarter, mirrored by both signs
mirrored_at : (s t : Bool) (a b q c : ℕ) → 0 < a + b → quarter a b ≡ q → mirror t 65536 (mirror s 32768 q) ≡ c → around s a t b ≡ c
mirrored_at s t a b q c h e m = around_some s a t b h ∙ ap (λ (q : ℕ). mirror t 65536 (mirror s 32768 q)) e ∙ m

module _ (s t : Bool) (a : ℕ) (h : 0 < a) where
  pub around_real : around s a t 0 ≡ cond s 32768 0
  around_real =
      mirrored_at s t a 0 0 (cond s 32768 0) (omega arith) (quarter_real a)
      (all_signs (λ s t. mirror t 65536 (mirror s 32768 0) ≡ cond s 32768 0) refl refl refl refl s t)

  pub around_imaginary : around s 0 t a ≡ cond t 49152 16384
  around_imaginary =
      mirrored_at s t 0 a 16384 (cond t 49152 16384) (omega arith) (quarter_imaginary a h)
      (all_signs (λ s t. mirror t 65536 (mirror s 32768 16384) ≡ cond t 49152 16384) refl refl refl refl s t)

  pub around_diagonal : around s a t a ≡ cond t (cond s 40960 57344) (cond s 24576 8192)
  around_diagonal =
      mirrored_at s t a a 8192 (cond t (cond s 40960 57344) (cond s 24576 8192)) (omega arith) (quarter_same a h)
      (all_signs (λ s t. mirror t 65536 (mirror s 32768 8192) ≡ cond t (cond s 40960 57344) (cond s 24576 8192)) refl refl refl refl s t)

-- ---- the signed count
pub signed_near : (c : ℕ) → c ≤ 32768 → signed c ≡ pos c
signed_near c h = rw (le-leb c 32768 h)

pub signed_far : (c : ℕ) → 32768 < c → c < 65536 → signed c ≡ negsuc (65535 - c)
signed_far c h l = rw (lt-leb c 32768 h, lt-ltb c 65536 l) (ap negsuc (omega arith))

pub signed_range : (c : ℕ) → c < 65536 → AngleRange (signed c)
signed_range c h = go (split 32768 c)
  where
    go : (32768 < c) ⊎ (c ≤ 32768) → AngleRange (signed c)
    go (inl l) = rw (signed_far c l h) (omega arith)
    go (inr l) = rw (signed_near c l) l

pub signed_turn : (c : ℕ) → c < 65536 → signed ((c + 16384) % 65536) ≡ round_circle (signed c +ℤ pos 16384)
signed_turn c h = go (split c 32769) (split c 49152)
  where
    go : (c < 32769) ⊎ (32769 ≤ c) → (c < 49152) ⊎ (49152 ≤ c) → signed ((c + 16384) % 65536) ≡ round_circle (signed c +ℤ pos 16384)
    go (inl l) k =
        let e : (c + 16384) % 65536 ≡ c + 16384 = omega arith in
        ap signed e ∙ sym (ap (λ (z : ℤ). round_circle (z +ℤ pos 16384)) (signed_near c (omega arith)))
    go (inr l) (inl k) =
        let e : 65535 - (c + 16384) % 65536 ≡ suc (65535 - c) - suc 16384 = omega arith in
        signed_far ((c + 16384) % 65536) (omega arith) (omega arith) ∙ ap negsuc e
        ∙ sym (ap (λ (z : ℤ). round_circle (z +ℤ pos 16384)) (signed_far c l h) ∙ rw (lt-ltb 16384 (suc (65535 - c)) (omega arith)) refl)
    go (inr l) (inr k) =
        let e : (c + 16384) % 65536 ≡ 16384 - suc (65535 - c) = omega arith in
        ap signed e
        ∙ sym (ap (λ (z : ℤ). round_circle (z +ℤ pos 16384)) (signed_far c l h) ∙ rw (le-ltb 16384 (suc (65535 - c)) (omega arith)) refl)

pub signed_mirror : (c : ℕ) → c < 65536 → signed ((65536 - c) % 65536) ≡ mirrored (signed c)
signed_mirror zero h = refl
signed_mirror (suc k) h = go (split (suc k) 32768) (split 32768 (suc k))
  where
    go : (suc k < 32768) ⊎ (32768 ≤ suc k) → (32768 < suc k) ⊎ (suc k ≤ 32768) → signed ((65536 - suc k) % 65536) ≡ mirrored (signed (suc k))
    go (inl l) j =
        let e : 65535 - (65536 - suc k) % 65536 ≡ k = omega arith in
        signed_far ((65536 - suc k) % 65536) (omega arith) (omega arith) ∙ ap negsuc e
        ∙ sym (ap mirrored (signed_near (suc k) (omega arith)) ∙ rw (ne_eqb (suc k) 32768 (λ (e : suc k ≡ 32768). omega arith)) refl)
    go (inr l) (inl j) =
        let e : (65536 - suc k) % 65536 ≡ suc (65535 - suc k) = omega arith in
        signed_near ((65536 - suc k) % 65536) (omega arith) ∙ ap pos e
        ∙ sym (ap mirrored (signed_far (suc k) j h))
    go (inr l) (inr j) =
        let e : suc k ≡ 32768 = omega arith in
        subst (λ (z : ℕ). signed ((65536 - z) % 65536) ≡ mirrored (signed z)) (sym e) refl
