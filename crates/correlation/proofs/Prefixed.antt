-- What `write_prefixes` keeps: the scratch holds the prefix sums up to the samples passed, and the locals are the last of them.
-- Assumes nothing.
use Rattle.std.proofs.Common.{◌≡◌, ℕ, zero, suc, ◌+◌, ◌*◌, ◌<◌, ◌≤◌, List, [], ◌∷◌, length, get_or, set, sym, refl, ap, ◌∙◌, le_of_suc-le-suc}
use Rattle.std.proofs.Common.{not-suc-le-zero, add-one, arith, length-set, get_or-set_other, get_or-set_same}
use native.Mathlib.Decide.{dec_lt}
use lib.Ieee.{Float, Format, nan, binary32, binary64, add, mul}
use Rattle.ieee.specs.Constants.{plus_zero, half}
use Rattle.ieee.specs.Sums.{prefixes}
use Rattle.lists.specs.Lists.{up_to}
use Rattle.lists.specs.Select.{length_up_to, get_or_up_to}
use Rattle.complex.specs.Complex.{Pair, product, conjugate, squared_size}
use Rattle.spectra.specs.Spectra.{pair_at}
use Rattle.correlation.specs.Correlation.{lags_in, lag_product, lag_energy, real_prefixes, imaginary_prefixes, energy_prefixes}
use Rattle.correlation.specs.Inner.{reals, imaginaries, energies, entry}

-- ---- a prefix sum: the first, and each from the one before it
first_prefix : (f : Format) (s : Float) (xs : List Float) → get_or (prefixes f s xs) 0 nan ≡ s
unfolding prefixes
first_prefix f s [] = refl
first_prefix f s (x ∷ xs) = refl

next_prefix : (f : Format) (s : Float) (xs : List Float) (i : ℕ) → i < length xs
    → get_or (prefixes f s xs) (suc i) nan ≡ add f (get_or (prefixes f s xs) i nan) (get_or xs i nan)
unfolding prefixes
next_prefix f s [] i h = absurd (not-suc-le-zero h)
next_prefix f s (x ∷ xs) zero h = first_prefix f (add f s x) xs
next_prefix f s (x ∷ xs) (suc i) h = next_prefix f (add f s x) xs i (le_of_suc-le-suc h)

-- ps are the prefix sums of n values of g
record SumsOf (g : ℕ → Float) (n : ℕ) (ps : List Float) : Type 0 where
  pub none : get_or ps 0 nan ≡ plus_zero binary64
  pub more : (i : ℕ) → i < n → add binary64 (get_or ps i nan) (g i) ≡ get_or ps (i + 1) nan

sums_of : (g : ℕ → Float) (n : ℕ) → SumsOf g n (prefixes binary64 (plus_zero binary64) (up_to g n))
sums_of g n =
    let z = plus_zero binary64 in
    record {
      none = first_prefix binary64 z (up_to g n);
      more = λ i h.
          let l : i < length (up_to g n) = rw (length_up_to g n) h in
          rw (add-one, next_prefix binary64 z (up_to g n) i l, get_or_up_to g n i nan h);
    }

real_sums : (n : ℕ) (xs : List Float) → SumsOf (λ i. (lag_product n xs i).re) (lags_in n xs) (real_prefixes n xs)
unfolding real_prefixes
real_sums n xs = sums_of (λ i. (lag_product n xs i).re) (lags_in n xs)

imaginary_sums : (n : ℕ) (xs : List Float) → SumsOf (λ i. (lag_product n xs i).im) (lags_in n xs) (imaginary_prefixes n xs)
unfolding imaginary_prefixes
imaginary_sums n xs = sums_of (λ i. (lag_product n xs i).im) (lags_in n xs)

energy_sums : (n : ℕ) (xs : List Float) → SumsOf (lag_energy n xs) (lags_in n xs) (energy_prefixes n xs)
unfolding energy_prefixes
energy_sums n xs = sums_of (lag_energy n xs) (lags_in n xs)

-- ---- an entry written to each of the three lists
abbrev pub put : List Float → ℕ → Float → Float → Float → List Float
put sums i a b c = set (set (set sums (reals i) a) (imaginaries i) b) (energies i) c

module _ (sums : List Float) (i : ℕ) (a b c : Float) where
  abbrev real : List Float
  real = set sums (reals i) a

  abbrev both : List Float
  both = set real (imaginaries i) b

  -- what stood before it is kept
  kept : (q : ℕ) → q < 3 * i → get_or (put sums i a b c) q nan ≡ get_or sums q nan
  kept q h =
      get_or-set_other both (energies i) q c nan (λ e. omega arith)
      ∙ (get_or-set_other real (imaginaries i) q b nan (λ e. omega arith) ∙ get_or-set_other sums (reals i) q a nan (λ e. omega arith))

  put_re : 3 * i + 2 < length sums → entry reals (put sums i a b c) i ≡ a
  put_re h =
      get_or-set_other both (energies i) (reals i) c nan (λ e. omega arith)
      ∙ (get_or-set_other real (imaginaries i) (reals i) b nan (λ e. omega arith) ∙ get_or-set_same sums (reals i) a nan (omega arith))

  put_im : 3 * i + 2 < length sums → entry imaginaries (put sums i a b c) i ≡ b
  put_im h =
      get_or-set_other both (energies i) (imaginaries i) c nan (λ e. omega arith)
      ∙ get_or-set_same real (imaginaries i) b nan (simp length-set (omega arith))

  put_energy : 3 * i + 2 < length sums → entry energies (put sums i a b c) i ≡ c
  put_energy h = get_or-set_same both (energies i) c nan (simp length-set h)

-- ---- one of the lists: its entries up to i are ps, and a is the last of them
pub record Track (slot : ℕ → ℕ) (ps : List Float) (i : ℕ) (sums : List Float) (a : Float) : Type 0 where
  pub held : (j : ℕ) → j ≤ i → entry slot sums j ≡ get_or ps j nan
  pub last : a ≡ get_or ps i nan

track_first : (slot : ℕ → ℕ) (g : ℕ → Float) (n : ℕ) (ps new : List Float) → SumsOf g n ps → entry slot new 0 ≡ plus_zero binary64
    → Track slot ps 0 new (plus_zero binary64)
track_first slot g n ps new p e = record { held = λ j l. let q : j ≡ 0 = omega arith in rw q (e ∙ sym p.none); last = sym p.none }

track_next : (slot : ℕ → ℕ) (g : ℕ → Float) (n : ℕ) (ps sums new : List Float) (i : ℕ) (a v : Float) → SumsOf g n ps → i < n → v ≡ g i
    → ((j : ℕ) → j ≤ i → entry slot new j ≡ entry slot sums j) → entry slot new (i + 1) ≡ add binary64 a v
    → Track slot ps i sums a → Track slot ps (i + 1) new (add binary64 a v)
track_next slot g n ps sums new i a v p h e old here t =
    let sum : add binary64 a v ≡ get_or ps (i + 1) nan = rw (t.last, e) (p.more i h) in
    record { held = λ j l. by sum j l (dec_lt i j); last = sum }
  where
    by : add binary64 a v ≡ get_or ps (i + 1) nan → (j : ℕ) → j ≤ i + 1 → Dec (i < j) → entry slot new j ≡ get_or ps j nan
    by sum j l (yes k) = let q : j ≡ i + 1 = omega arith in rw q (here ∙ sum)
    by sum j l (no k) = let m : j ≤ i = omega arith in old j m ∙ t.held j m

-- ---- what the loop keeps: sums a, b and c of the first i samples, and all before them in the scratch
pub record Writing (n : ℕ) (xs : List Float) (i : ℕ) (sums : List Float) (a b c : Float) : Type 0 where
  pub re : Track reals (real_prefixes n xs) i sums a
  pub im : Track imaginaries (imaginary_prefixes n xs) i sums b
  pub energy : Track energies (energy_prefixes n xs) i sums c

-- it starts with sums of nothing
pub start : (n : ℕ) (xs sums : List Float) → 2 < length sums
    → let z = plus_zero binary64 in Writing n xs 0 (put sums 0 z z z) z z z
start n xs sums h =
    let z = plus_zero binary64 in
    let new = put sums 0 z z z in
    record {
      re = track_first reals _ _ _ new (real_sums n xs) (put_re sums 0 z z z h);
      im = track_first imaginaries _ _ _ new (imaginary_sums n xs) (put_im sums 0 z z z h);
      energy = track_first energies _ _ _ new (energy_sums n xs) (put_energy sums 0 z z z h);
    }

-- goes on with a sample's product and energy
pub again : (n : ℕ) (xs : List Float) (i : ℕ) (sums : List Float) (a b c : Float) (p : Pair) (e : Float) → i < lags_in n xs → 3 * (i + 1) + 2 < length sums
    → p ≡ lag_product n xs i → e ≡ lag_energy n xs i → Writing n xs i sums a b c
    → let re = add binary64 a p.re in let im = add binary64 b p.im in let energy = add binary64 c e in
    Writing n xs (i + 1) (put sums (i + 1) re im energy) re im energy
again n xs i sums a b c p e h room f g w =
    let k = i + 1 in
    let re = add binary64 a p.re in
    let im = add binary64 b p.im in
    let energy = add binary64 c e in
    let new = put sums k re im energy in
    let old = kept sums k re im energy in
    record {
      re = track_next reals _ _ _ sums new i a p.re (real_sums n xs) h (ap (λ (q : Pair). q.re) f) (λ j l. old (reals j) (omega arith))
          (put_re sums k re im energy room) w.re;
      im = track_next imaginaries _ _ _ sums new i b p.im (imaginary_sums n xs) h (ap (λ (q : Pair). q.im) f) (λ j l. old (imaginaries j) (omega arith))
          (put_im sums k re im energy room) w.im;
      energy = track_next energies _ _ _ sums new i c e (energy_sums n xs) h g (λ j l. old (energies j) (omega arith))
          (put_energy sums k re im energy room) w.energy;
    }

-- ---- a sample's product and energy, by the steps that make them
module _ (n : ℕ) (xs : List Float) (i : ℕ) (a b : Pair) (f : a ≡ pair_at xs i) (g : b ≡ pair_at xs (i + n)) where
  pub product_by : (c m p : Pair) → c ≡ conjugate b → m ≡ product binary32 a c → p ≡ m → p ≡ lag_product n xs i
  product_by c m p q r s = s ∙ (r ∙ rw (q, f, g))

  pub energy_by : (x y both : Float) → x ≡ squared_size binary32 a → y ≡ squared_size binary32 b → both ≡ add binary32 x y
      → mul binary64 both half ≡ lag_energy n xs i
  energy_by x y both q r s = rw (s, q, r, f, g)
