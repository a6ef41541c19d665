-- What the sums of the offsets are, whose spectra a `Sent` gives.
-- Assumes nothing.
use Rattle.std.specs.Prelude.{ℕ, zero, suc, ◌≤◌, List, [], ◌∷◌, ◌++◌, map, ◌≡◌, refl, pos, length, Float, from_bits}
use Rattle.std.specs.List.{fold, range_with_len}
use Rattle.std.proofs.lemmas.List.FromFn.{map-range_with_len_more}
use Rattle.std.proofs.lemmas.Simd.{map-map}
use Rattle.std.proofs.Common.{sym, ◌∙◌, add-one, arith}
use Rattle.std.proofs.Math.Path.{ap}
use Rattle.std.proofs.lemmas.List.{length-map}
use Rattle.std.specs.Float.Ieee.{binary32, add, neg, div, of_bits, of_int}
use Rattle.ieee.specs.Constants.{minus_zero}
use Rattle.ieee.specs.Sums.{total}
use Rattle.lists.specs.Lists.{up_to}
use Rattle.lists.specs.Select.{length_up_to, map_up_to}
use Rattle.pilot_times.specs.declared.Window.{Window}
use Rattle.pilot_times.specs.declared.Sent.{Sent}
use Rattle.pilot_times.specs.Window.{offset_of, mean, squared, spread}
use Rattle.pilot_times.specs.Inner.{spectrum_of, spectra_of, Inside, sum_at, offsets_of}

-- how many there are
pub how_many : {A : Type 0} (g : ℕ → A) (sent : Sent) → length (map g (spectra_of sent)) ≡ sent.count
how_many g sent = length-map (spectra_of sent) g ∙ length_up_to (spectrum_of sent) sent.count

-- ---- the sum that std makes
fold_total : (s : Float) (xs : List Float) → fold (λ a x. add binary32 a x) s xs ≡ total binary32 s xs
unfolding total
fold_total s [] = refl
fold_total s (x ∷ xs) = fold_total (add binary32 s x) xs

minus : neg (from_bits binary32 0) ≡ minus_zero
unfolding neg of_bits
minus = refl

range_up_to : {A : Type 0} (h : ℕ → A) (n : ℕ) → map h (range_with_len 0 n) ≡ up_to h n
range_up_to h zero = refl
range_up_to {A} h (suc n) =
    ap (λ (k : ℕ). map h (range_with_len 0 k)) (sym (add-one n))
    ∙ map-range_with_len_more h 0 n n (omega arith)
    ∙ ap (λ (l : List A). l ++ (h n ∷ [])) (range_up_to h n)

pub sum_at_is : (g : ℕ → Float) (sent : Sent) → sum_at g sent ≡ total binary32 minus_zero (map g (spectra_of sent))
sum_at_is g sent =
    let h : ℕ → Float = λ i. g (spectrum_of sent i) in
    fold_total (neg (from_bits binary32 0)) (map h (range_with_len 0 sent.count))
    ∙ rw (minus, range_up_to h sent.count, map_up_to g (spectrum_of sent) sent.count)

-- ---- the mean and the spread of the offsets
module _ (win : Window) (sent : Sent) where
  pub mean_is : {sum : Float} → sum ≡ sum_at (offset_of win) sent → div binary32 sum (of_int binary32 (pos sent.count)) ≡ mean (offsets_of win sent)
  unfolding mean
  mean_is e = rw (how_many (offset_of win) sent, e, sum_at_is (offset_of win) sent)

  pub spread_is : (m : Float) → sum_at (λ s. squared m (offset_of win s)) sent ≡ spread m (offsets_of win sent)
  unfolding spread
  spread_is m = sum_at_is (λ s. squared m (offset_of win s)) sent ∙ ap (total binary32 minus_zero) (sym (map-map (squared m) (offset_of win) (spectra_of sent)))

-- ---- spectra of a window lie within any larger one
pub inside_larger : (m n : ℕ) (s : Sent) → m ≤ n → Inside m s → Inside n s
inside_larger m n s l h =
    record { inside = λ i p. omega (arith, h.inside i p); few = omega (arith, h.few); start = omega (arith, h.start); near = h.near }
