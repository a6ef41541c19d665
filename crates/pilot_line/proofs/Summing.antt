-- Pairs summed over the spectra of a `Sent`, from +0.0, and what the sums of a carrier's values are in the end.
-- Assumes nothing.
use Prim.Native.Nat.{ℕ, ◌+◌, ◌≤◌}
use mathlib.Core.List.{List, map, map-map}
use mathlib.Core.Path.{◌≡◌, refl, sym, ap, ◌∙◌}
use native.Mathlib.Numerals.{add-one}
use native.Mathlib.Omega.{arith}
use lib.IntN.{pos}
use lib.Ieee.{Float, binary32, sub, of_int}
use Rattle.lists.specs.Lists.{up_to}
use Rattle.lists.specs.Select.{map_up_to}
use Rattle.ieee.specs.Constants.{plus_zero}
use Rattle.ofdm.specs.declared.BandCarrier.{BandCarrier}
use Rattle.complex.specs.Complex.{Pair, pair, plus, minus, scaled, divided}
use Rattle.complex.specs.Totals.{totals, totals_append}
use Rattle.pilot_times.specs.declared.Window.{Window}
use Rattle.pilot_times.specs.declared.Sent.{Sent}
use Rattle.pilot_times.specs.Window.{offset_of}
use Rattle.pilot_times.specs.Inner.{spectrum_of, spectra_of}
use Rattle.pilot_times.specs.Summing.{how_many}
use Rattle.pilot_line.specs.Line.{point, mean_pair, leaning, slope_sum}
use Rattle.pilot_line.specs.Estimate.{points_in}
use Rattle.pilot_line.specs.Inner.{value_in}

abbrev origin : Pair
origin = pair (plus_zero binary32) (plus_zero binary32)

-- ---- the sum of g over the first i spectra
module _ (g : ℕ → Pair) (sent : Sent) where
  unfoldable pub sum_of : ℕ → Pair
  sum_of i = totals binary32 origin (up_to (λ j. g (spectrum_of sent j)) i)

  pub sum_none : sum_of 0 ≡ origin
  unfolding sum_of totals
  sum_none = refl

  -- the spectrum of number i gives v
  pub sum_more : (i : ℕ) {s : ℕ} {sum v next : Pair} → sum ≡ sum_of i → s ≡ spectrum_of sent i → v ≡ g s → next ≡ plus binary32 sum v
      → next ≡ sum_of (i + 1)
  unfolding sum_of totals
  sum_more i e at q n = rw (add-one i, totals_append binary32 origin (up_to (λ j. g (spectrum_of sent j)) i) _, n, e, q, at)

  sum_all : {i : ℕ} {sum : Pair} → sum ≡ sum_of i → i ≤ sent.count → sent.count ≤ i → sum ≡ totals binary32 origin (map g (spectra_of sent))
  unfolding sum_of
  sum_all {i} e l h =
      let all : i ≡ sent.count = omega arith in
      (rw all at e) ∙ ap (totals binary32 origin) (sym (map_up_to g (spectrum_of sent) sent.count))

  -- the mean of the values
  pub mean_is : {i : ℕ} {sum mean : Pair} → sum ≡ sum_of i → i ≤ sent.count → sent.count ≤ i
      → mean ≡ divided binary32 sum (of_int binary32 (pos sent.count)) → mean ≡ mean_pair (map g (spectra_of sent))
  unfolding mean_pair
  mean_is e l h m = rw (how_many g sent, m, sum_all e l h)

-- ---- a carrier's slope sum
module _ (win : Window) (xs : List Float) (k : BandCarrier) (inverse xm : Float) (vm : Pair) where
  -- what a spectrum adds to it
  abbrev pub leans : ℕ → Pair
  leans s = leaning xm vm (point (offset_of win s) (value_in win xs k inverse s))

  -- the calls of a turn compute it
  pub term_is : (s : ℕ) {a b d : Pair} {x : Float} → a ≡ value_in win xs k inverse s → b ≡ minus binary32 a vm → x ≡ offset_of win s
      → d ≡ scaled binary32 b (sub binary32 x xm) → d ≡ leans s
  term_is s e f g h = rw (h, f, e, g)

  pub slope_is : (sent : Sent) {i : ℕ} {sum : Pair} → sum ≡ sum_of leans sent i → i ≤ sent.count → sent.count ≤ i
      → sum ≡ slope_sum xm vm (points_in win xs k inverse (spectra_of sent))
  unfolding slope_sum points_in
  slope_is sent e l h =
      sum_all leans sent e l h
      ∙ ap (totals binary32 origin) (sym (map-map (leaning xm vm) (λ s. point (offset_of win s) (value_in win xs k inverse s)) (spectra_of sent)))
