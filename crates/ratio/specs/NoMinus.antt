-- No ratio has a minus sign: it is +0.0, or a size over an energy above zero.
-- Assumes nothing.
use Rattle.std.specs.Prelude.{ℕ, ◌<◌, Bool, true, false, cond, List, ◌≡◌, refl, pos, get_or, Float}
use Rattle.std.proofs.lemmas.Bool.{false≢true}
use Rattle.std.proofs.Common.{ap, ◌∙◌}
use Rattle.std.specs.Float.{nan, inf, fin, binary32, binary64}
use Rattle.std.specs.Float.Ieee.{div, lt}
use Rattle.ieee.specs.Constants.{plus_zero, plus_zero_is}
use Rattle.ieee.specs.Signs.{negative, square_sign, plus_sign, quotient_sign, narrow_sign}
use Rattle.root.specs.RootUnits.{root_sign}
use Rattle.lists.specs.Select.{get_or_up_to}
use Rattle.complex.specs.Complex.{Pair, norm64, norm32}
use Rattle.spectra.specs.Spectra.{bin_pairs}
use Rattle.ratio.specs.Ratio.{correlation, energy, guarded, ratio_of, bin_ratios}

size_sign : (x : Pair) → negative (norm32 x) ≡ false
unfolding norm32 norm64
size_sign x = narrow_sign (norm64 x) ∙ root_sign _ (plus_sign binary64 _ _ (square_sign binary64 x.re) (square_sign binary64 x.im))

-- what is above +0.0 has none
above_zero_sign : (d : Float) → lt (fin false 0 (pos 0)) d ≡ true → negative d ≡ false
unfolding lt
above_zero_sign nan h = refl
above_zero_sign (inf true) h = absurd (false≢true h)
above_zero_sign (inf false) h = refl
above_zero_sign (fin true n e) h = absurd (false≢true h)
above_zero_sign (fin false n e) h = refl

guarded_sign : (n d : Float) → negative n ≡ false → negative (guarded n d) ≡ false
guarded_sign n d p = by (lt (plus_zero binary32) d) refl
  where
    by : (b : Bool) → lt (plus_zero binary32) d ≡ b → negative (cond b (div binary32 n d) (plus_zero binary32)) ≡ false
    by true e = quotient_sign binary32 n d p (above_zero_sign d (rw (plus_zero_is binary32) at e))
    by false e = rw (plus_zero_is binary32)

ratio_sign : (xs : List Pair) → negative (ratio_of xs) ≡ false
unfolding ratio_of
ratio_sign xs = guarded_sign (norm32 (correlation xs)) (energy xs) (size_sign (correlation xs))

pub ratios_sign : (n : ℕ) (xs : List Float) (b : ℕ) → b < n → negative (get_or (bin_ratios n xs) b nan) ≡ false
unfolding bin_ratios
ratios_sign n xs b h = ap negative (get_or_up_to (λ b. ratio_of (bin_pairs n xs b)) n b nan h) ∙ ratio_sign (bin_pairs n xs b)
