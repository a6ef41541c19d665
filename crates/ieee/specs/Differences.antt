-- The difference of two numbers as a signed one: by cases, as the machine's i64 has it, and as a float, which holds it.
-- Assumes nothing.
use Rattle.std.specs.Prelude.{ℕ, zero, suc, ◌+◌, ◌-◌, ◌≤◌, ◌<◌, ◌≡◌, T, ℤ, pos, negsuc, ◌-ℤ◌}
use Rattle.std.proofs.Common.{sym, ap, ◌∙◌, arith, le-leb, lt-ltb, le-ltb, le→leb, lt→ltb, SFits, to_z, of_z}
use Rattle.std.proofs.Math.Decide.{dec_lt}
use Rattle.std.proofs.lemmas.Bool.{lt-leb}
use Rattle.std.specs.Int.Signed.{mag}
use Rattle.std.specs.Float.{binary32}
use Rattle.std.specs.Float.Ieee.{minus, in_float}
use Rattle.std.specs.Int.{w64}
use Rattle.std.proofs.lemmas.Int.{to_z_pos, to_z-of_z}

pub minus_above : (a b : ℕ) → b ≤ a → minus a b ≡ pos (a - b)
minus_above a b h = rw (le-leb b a h)

pub minus_below : (a b : ℕ) → a < b → minus a b ≡ negsuc (b - suc a)
minus_below a b h = rw (lt-leb b a h)

pub minus_self : (a : ℕ) → minus a a ≡ pos 0
minus_self a = minus_above a a (omega arith) ∙ ap pos (omega arith)

-- an f32 holds every whole number of 24 binary digits
pub held_exactly : (z : ℤ) → mag z < 16777216 → T (in_float binary32 z)
unfolding in_float
held_exactly (pos n) h = le→leb n 16777216 (omega arith)
held_exactly (negsuc n) h = lt→ltb n 16777216 (omega arith)

difference : (a b : ℕ) → pos a -ℤ pos b ≡ minus a b
difference a zero = sym (minus_above a 0 (omega arith) ∙ ap pos (omega arith))
difference a (suc b) = by (dec_lt a (suc b))
  where
    by : Dec (a < suc b) → pos a -ℤ pos (suc b) ≡ minus a (suc b)
    by (yes l) = rw (lt-ltb a (suc b) l, minus_below a (suc b) l)
    by (no l) = rw (le-ltb a (suc b) (omega arith), minus_above a (suc b) (omega arith))

mag_minus : (a b : ℕ) → mag (minus a b) ≤ a + b
mag_minus a b = by (dec_lt a b)
  where
    by : Dec (a < b) → mag (minus a b) ≤ a + b
    by (yes l) = rw (minus_below a b l) (omega arith)
    by (no l) = rw (minus_above a b (omega arith)) (omega arith)

-- as i64: nothing is lost
module _ (a b : ℕ) (small : a + b < 16777216) where
  same : to_z w64 a -ℤ to_z w64 b ≡ minus a b
  same = rw (to_z_pos w64 a (omega arith), to_z_pos w64 b (omega arith)) (difference a b)

  pub difference_fits : SFits w64 (to_z w64 a -ℤ to_z w64 b)
  difference_fits = rw same (record { sfits = omega (arith, mag_minus a b) })

  pub difference_is : to_z w64 (of_z w64 (to_z w64 a -ℤ to_z w64 b)) ≡ minus a b
  difference_is = to_z-of_z w64 _ difference_fits ∙ same

  pub difference_held : T (in_float binary32 (to_z w64 (of_z w64 (to_z w64 a -ℤ to_z w64 b))))
  difference_held = rw difference_is (held_exactly (minus a b) (omega (arith, mag_minus a b)))
