-- What a change of spectra does to a bin's sums (`changed_sums`). Turn and sign leave the energy as it is, bit for bit, and the correlation but for
-- the sign of a zero; the gain multiplies both by its fourth power. What is read off the sums follows: the ratio is the same, bit for bit, and so
-- is whether the energy is above zero; and so is the answer to one bin's pairs alone.
-- Assumes nothing.
use Rattle.std.specs.Prelude.{ℕ, zero, suc, ◌≤◌, ◌<◌, Bool, true, ◌⊎◌, ◌≡◌, eqb, Float, Result, Ok, Err}
use Rattle.std.proofs.Math.Bool.{false, cond}
use mathlib.Core.List.{List, [], ◌∷◌, map}
use Rattle.std.proofs.Math.Logic.{inl, inr}
use Rattle.std.proofs.Math.Path.{refl, ap}
use Rattle.std.proofs.Common.{sym, ◌∙◌, arith, eqb-true, lit<}
use Rattle.std.proofs.Math.ListN.{length, length-map}
use Rattle.std.specs.Float.Ieee.{binary32, binary64, unlike}
use Rattle.ieee.specs.Constants.{plus_zero}
use Rattle.ieee.specs.Zeros.{canon}
use Rattle.ieee.specs.Levels.{Scaled}
use Rattle.ieee.specs.Sums.{total, Each, each_map, each_equal, total_alike}
use Rattle.lists.specs.Select.{up_to_same}
use Rattle.complex.specs.Complex.{Pair, pair, product, conjugate, norm32}
use Rattle.complex.specs.Changes.{Change, changed_pair, negated, gain_by, amplified, most, WholePair}
use Rattle.complex.specs.Turns.{Alike, changed_product_alike, square_re, square_im, alike_size, norm32_same}
use Rattle.complex.specs.Gains.{BothScaled}
use Rattle.complex.specs.Totals.{reals, imaginaries, totals_parts}
use Rattle.complex.specs.Bounds.{step_level, term_level, bin_level, part_gain, step_gain, square_gain, size_gain}
use Rattle.complex.specs.Bounds.{bin_sum_gain, bin_energy_gain, ratio_gain, above_zero_gain}
use Rattle.spectra.specs.ChangedBins.{changed_from, WholePairs, changed_bin, whole_bin, length_bin}
use Rattle.spectra.specs.Changes.{Changed, Allowed}
use Rattle.spectra.specs.Codes as spectra
use Rattle.spectra.specs.Spectra.{bin_pairs, spectra_in}
use Rattle.params.specs.declared.Refusal.{Refusal}
use Rattle.params.specs.Params.{refusal_of, answered}
use Rattle.ratio.specs.Ratio.{steps_from, steps, square_of, size_of, correlation, energy, above_zero, guarded, ratio_of, bin_ratios}
use Rattle.ratio.specs.Ratio.{bin_ratio_code, bin_ratio_answer}
use Rattle.ratio.specs.Facts.{every_step}

-- ---- the statement
-- the sums of zs are those of xs: at a gain of 1 the same, whatever they hold; else whole numbers, multiplied by 2 ^ (4 * gain)
abbrev pub SumsGained : ℕ → List Pair → List Pair → Type 0
SumsGained gain xs zs =
    (zs ≡ xs) ⊎ ((gain ≤ most) × BothScaled bin_level gain (correlation xs) (correlation zs) × Scaled bin_level gain (energy xs) (energy zs))

-- xs are a bin's pairs, ys the same changed, with a gain of 2 ^ gain
pub record SumsKept (gain : ℕ) (xs ys : List Pair) : Type 0 where
  -- signs and turn: the sums are those of the pairs that are amplified and no more, but for the sign of a zero in the correlation
  pub alike : Alike (correlation ys) (correlation (map (gain_by gain) xs))
  pub same : energy ys ≡ energy (map (gain_by gain) xs)
  -- gain: those are the sums before, amplified
  pub gained : SumsGained gain xs (map (gain_by gain) xs)

-- ---- what is read off the sums
module _ (gain : ℕ) (xs ys : List Pair) (h : SumsKept gain xs ys) where
  abbrev louder : List Pair
  louder = map (gain_by gain) xs

  pub kept_energy : above_zero (energy ys) ≡ above_zero (energy xs)
  kept_energy =
      ap above_zero h.same
      ∙ elim h.gained [
        | inl e ↦ ap (λ (zs : List Pair). above_zero (energy zs)) e
        | inr (K, n, d) ↦ sym (above_zero_gain binary32 bin_level gain (energy xs) (energy louder) d)
      ]

  pub kept_ratio : ratio_of ys ≡ ratio_of xs
  unfolding ratio_of
  kept_ratio =
      (λ i. guarded (norm32_same (correlation ys) (correlation louder) (alike_size binary64 false _ _ h.alike) i) (h.same i))
      ∙ elim h.gained [
        | inl e ↦ ap (λ (zs : List Pair). guarded (norm32 (correlation zs)) (energy zs)) e
        | inr (K, n, d) ↦
            (λ i. cond (sym (above_zero_gain binary32 bin_level gain (energy xs) (energy louder) d) i)
            (sym (ratio_gain gain K (correlation xs) (correlation louder) (energy xs) (energy louder) n d) i) (plus_zero binary32))
      ]

-- ---- signs and turn
-- each product is the other's, or that with the other sign, but for the sign of a zero
record Signed (p q : Pair) : Type 0 where
  flipped : Bool
  alike : Alike p (negated flipped q)

module _ (c : Change) where
  abbrev by : Pair → Pair
  by x = gain_by c.gain x

  changed_product : (i j : ℕ) (x y : Pair)
      → Signed (product binary32 (changed_pair c i x) (conjugate (changed_pair c j y))) (product binary32 (by x) (conjugate (by y)))
  changed_product i j x y =
      let a = c.negates i in
      let b = c.negates j in
      let t = c.turns in
      record { flipped = unlike a b; alike = changed_product_alike binary32 a b t (by x) (by y) }

  changed_after : (j : ℕ) (y : Pair) (xs : List Pair)
      → Each Signed (steps_from (changed_pair c j y) (changed_from c (suc j) xs)) (steps_from (by y) (map by xs))
  unfolding steps_from Each
  changed_after j y [] = tt
  changed_after j y (x ∷ xs) = (changed_product (suc j) j x y, changed_after (suc j) x xs)

  changed_steps : (xs : List Pair) → Each Signed (steps (changed_from c 0 xs)) (steps (map by xs))
  unfolding steps Each
  changed_steps [] = tt
  changed_steps (x ∷ xs) = changed_after 0 x xs

-- so the squares' real parts and the sizes are equal, and the squares' imaginary parts but for the sign of a zero
module _ (ps qs : List Pair) (h : Each Signed ps qs) where
  sizes_same : map size_of ps ≡ map size_of qs
  sizes_same = each_equal _ _ (each_map Signed (λ x y. x ≡ y) size_of (λ p q s. alike_size binary32 s.flipped p q s.alike) ps qs h)

  reals_same : reals (map square_of ps) ≡ reals (map square_of qs)
  reals_same =
      let squares = each_map Signed (λ x y. x.re ≡ y.re) square_of (λ p q s. square_re binary32 s.flipped p q s.alike) ps qs h in
      each_equal _ _ (each_map (λ x y. x.re ≡ y.re) (λ x y. x ≡ y) (λ (x : Pair). x.re) (λ x y e. e) _ _ squares)

  imaginaries_alike : Each (λ x y. canon x ≡ canon y) (imaginaries (map square_of ps)) (imaginaries (map square_of qs))
  imaginaries_alike =
      let R : Pair → Pair → Type 0 = λ x y. canon x.im ≡ canon y.im in
      let squares = each_map Signed R square_of (λ p q s. square_im binary32 s.flipped p q s.alike) ps qs h in
      each_map R (λ x y. canon x ≡ canon y) (λ (x : Pair). x.im) (λ x y e. e) _ _ squares

module _ (xs ys : List Pair) (h : Each Signed (steps ys) (steps xs)) where
  signed_energy : energy ys ≡ energy xs
  unfolding energy
  signed_energy = ap (total binary32 (plus_zero binary32)) (sizes_same (steps ys) (steps xs) h)

  signed_correlation : Alike (correlation ys) (correlation xs)
  unfolding correlation
  signed_correlation =
      let z = plus_zero binary32 in
      rw (totals_parts binary32 (pair z z) (map square_of (steps ys)), totals_parts binary32 (pair z z) (map square_of (steps xs)))
      (record {
        re = ap (λ (l : List Float). canon (total binary32 z l)) (reals_same (steps ys) (steps xs) h);
        im = total_alike binary32 z z _ _ refl (imaginaries_alike (steps ys) (steps xs) h);
      })

-- ---- amplified, where all parts are whole numbers from -32,768 to 32,768
module _ (k : ℕ) (K : k ≤ most) where
  gained_after : (y : Pair) (xs : List Pair) → WholePair y → WholePairs xs
      → Each (BothScaled step_level k) (steps_from y xs) (steps_from (amplified k y) (map (amplified k) xs))
  unfolding steps_from Each
  gained_after y [] h g = tt
  gained_after y (x ∷ xs) h g =
      (step_gain k K x (amplified k x) y (amplified k y) (part_gain k K x g.0) (part_gain k K y h), gained_after x xs g.0 g.1)

  gained_steps : (xs : List Pair) → WholePairs xs → Each (BothScaled step_level k) (steps xs) (steps (map (amplified k) xs))
  unfolding steps Each
  gained_steps [] g = tt
  gained_steps (x ∷ xs) g = gained_after x xs g.0 g.1

  gained_sums : (xs : List Pair) → length xs ≤ 1024 → WholePairs xs → SumsGained k xs (map (amplified k) xs)
  unfolding correlation energy
  gained_sums xs N g =
      let ps = steps xs in
      let qs = steps (map (amplified k) xs) in
      let few : length ps ≤ 1024 = omega (arith, every_step xs) in
      let each = gained_steps xs g in
      inr (
        K,
        bin_sum_gain k K (map square_of ps) (map square_of qs) (rw length-map few)
            (each_map (BothScaled step_level k) (BothScaled term_level k) square_of (square_gain k K) ps qs each),
        bin_energy_gain k K (map size_of ps) (map size_of qs) (rw length-map few)
            (each_map (BothScaled step_level k) (Scaled term_level k) size_of (size_gain k K) ps qs each),
      )

gain_none : (xs : List Pair) → map (gain_by 0) xs ≡ xs
gain_none [] = refl
gain_none (x ∷ xs) = ap (λ (l : List Pair). x ∷ l) (gain_none xs)

-- ---- all changes together
-- a bin's pairs may be amplified
abbrev pub AllowedPairs : ℕ → List Pair → Type 0
AllowedPairs gain xs = (gain ≡ 0) ⊎ ((gain ≤ most) × WholePairs xs)

sums_gained : (gain : ℕ) (xs : List Pair) → length xs ≤ 1024 → AllowedPairs gain xs → SumsGained gain xs (map (gain_by gain) xs)
sums_gained zero xs N h = inl (gain_none xs)
sums_gained (suc k) xs N (inl z) = let e : suc k ≡ 0 = z in absurd (omega arith)
sums_gained (suc k) xs N (inr (K, g)) = gained_sums (suc k) K xs N g

module _ (c : Change) (xs : List Pair) (N : length xs ≤ 1024) (h : AllowedPairs c.gain xs) where
  pub changed_sums : SumsKept c.gain xs (changed_from c 0 xs)
  changed_sums =
      record {
        alike = signed_correlation (map (gain_by c.gain) xs) (changed_from c 0 xs) (changed_steps c xs);
        same = signed_energy (map (gain_by c.gain) xs) (changed_from c 0 xs) (changed_steps c xs);
        gained = sums_gained c.gain xs N h;
      }

  pub changed_ratio : ratio_of (changed_from c 0 xs) ≡ ratio_of xs
  changed_ratio = kept_ratio c.gain xs (changed_from c 0 xs) changed_sums

  pub changed_energy : above_zero (energy (changed_from c 0 xs)) ≡ above_zero (energy xs)
  changed_energy = kept_energy c.gain xs (changed_from c 0 xs) changed_sums

-- ---- of the bin that was moved there
module _ (c : Change) (len : ℕ) (move : ℕ → ℕ) (xs ys : List Float) (b : ℕ) (B : b < len) (N : spectra_in len (length xs) ≤ 1024) (A : Allowed c len xs)
    (h : Changed c len move xs ys) where
  pub changed_sums_at : SumsKept c.gain (bin_pairs len xs b) (bin_pairs len ys (move b))
  changed_sums_at =
      rw (changed_bin c len move xs ys b B h)
      (changed_sums c (bin_pairs len xs b) (rw (length_bin len xs b (spectra_in len (length xs))) N)
      (elim A [ inl z ↦ inl z | inr g ↦ inr (g.0, whole_bin len xs b B g.1) ]))

  pub changed_ratio_at : ratio_of (bin_pairs len ys (move b)) ≡ ratio_of (bin_pairs len xs b)
  changed_ratio_at = kept_ratio c.gain (bin_pairs len xs b) (bin_pairs len ys (move b)) changed_sums_at

  pub changed_energy_at : above_zero (energy (bin_pairs len ys (move b))) ≡ above_zero (energy (bin_pairs len xs b))
  changed_energy_at = kept_energy c.gain (bin_pairs len xs b) (bin_pairs len ys (move b)) changed_sums_at

-- not moved, all ratios are the same
pub changed_ratios : (c : Change) (len : ℕ) (xs ys : List Float) → spectra_in len (length xs) ≤ 1024 → Allowed c len xs → Changed c len (λ b. b) xs ys
    → bin_ratios len ys ≡ bin_ratios len xs
unfolding bin_ratios
changed_ratios c len xs ys N A h = up_to_same _ _ len (λ b B. changed_ratio_at c len (λ b. b) xs ys b B N A h)

-- ---- one bin's pairs alone, as spectra of one bin: the answer is the same
pub changed_answer : (c : Change) (xs ys : List Float) → Allowed c 1 xs → Changed c 1 (λ b. b) xs ys → bin_ratio_answer ys ≡ bin_ratio_answer xs
unfolding bin_ratio_answer
changed_answer c xs ys A h =
    (λ i. answered (bin_ratio_code (h.long i)) (ratio_of (bin_pairs 1 ys 0))) ∙ by (eqb code 0) refl
  where
    code : ℕ
    code = bin_ratio_code (length xs)

    by : (b : Bool) → eqb code 0 ≡ b
        → cond {A = Result Float Refusal} b (Ok (ratio_of (bin_pairs 1 ys 0))) (Err (refusal_of code))
        ≡ cond b (Ok (ratio_of (bin_pairs 1 xs 0))) (Err (refusal_of code))
    by true e =
        let few = (spectra.accepted 1 (length xs) 0 (eqb-true code 0 e)).few in
        ap Ok (changed_ratio_at c 1 (λ b. b) xs ys 0 (lit< tt) few A h)
    by false e = refl
