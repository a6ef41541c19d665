-- Document 01's checked values of the guess, only 1/32 tried in mode 1 and any scratch that is long enough: 10,559 pairs find nothing whatever they
-- hold; 10,560 pairs of (1, 0) find offset 0, with metric 1 and the correlation (256, 0).
-- Assumes nothing.
use Prim.Native.Nat.{ℕ, zero, suc, ◌+◌, ◌-◌, ◌*◌, ◌/◌, ◌≤◌, ◌<◌, suc-le-suc}
use Rattle.std.specs.Prelude.{Bool, ◌≡◌, leb, ltb, pos, length, Option, Some, None, Ok}
use Rattle.std.proofs.Math.Bool.{true, false, cond}
use mathlib.Core.List.{List, [], ◌∷◌}
use Rattle.std.proofs.Math.Path.{refl, ap}
use Rattle.std.proofs.Common.{sym, subst, ◌∙◌, le_trans, le_of_suc-le-suc, not-suc-le-zero, mul-one, arith, lt-ltb, le-ltb, le-leb, lit<, lit≤}
use Rattle.std.proofs.lemmas.Bool.{lt-leb}
use Rattle.std.proofs.Math.ListN.{get_or}
use Rattle.std.specs.Float.Ieee.{Float, binary64, of_bits, round, neg, sum, add, sub, mul, div, lt, le}
use Rattle.std.specs.Float.{Format, nan, fin, binary32}
use Rattle.std.specs.Float.Ieee.Exact.{HasValue}
use Rattle.std.specs.Float.Ieee.Back.{round_whole}
use Rattle.ieee.specs.Constants.{plus_zero, half}
use Rattle.root.specs.Root.{root_of}
use Rattle.ieee.specs.Values.{neg_value, shape, add_value}
use Rattle.ieee.specs.Sums.{total, prefixes}
use Rattle.lists.specs.Lists.{up_to, range, select}
use Rattle.lists.specs.Select.{length_up_to, get_or_up_to}
use Rattle.complex.specs.Complex.{Pair, pair, product, conjugate, squared_size, norm64}
use Rattle.spectra.specs.Spectra.{pair_at}
use Rattle.samples_needed.specs.Samples.{fft_of, guard_of, symbol_of}
use Rattle.correlation.specs.Correlation.{pairs_in, lags_in, lag_product, lag_energy, real_prefixes, imaginary_prefixes, energy_prefixes, starts, window_sum}
use Rattle.guess.specs.Guess.{correlation_at, energy_at, guess_at, offered, scan, tried_guard, tried_mode, guessed}
use Rattle.guess.specs.Guess.{guess_code, guess_answer}
use Rattle.guess.specs.Facts.{first_taken, only_greater, scan_last}
use Rattle.guess.specs.declared.ModeGuess.{ModeGuess}

-- ---- one mode and one guard
module _ (xs : List Float) (mode guard : ℕ) where
  abbrev need : ℕ
  need = guard_of mode guard + 4 * symbol_of mode guard

  -- too short for the guard
  alone_short : lags_in (fft_of mode) xs < need → guessed xs (mode ∷ []) (guard ∷ []) ≡ None
  unfolding guessed tried_mode tried_guard scan
  alone_short h = rw (lt-leb need (lags_in (fft_of mode) xs) h) (by (ltb (fft_of mode) (pairs_in (length xs))))
    where
      by : (b : Bool) → cond {A = Option ModeGuess} b None None ≡ None
      by true = refl
      by false = refl

  -- long enough
  alone_mode : fft_of mode < pairs_in (length xs) → guessed xs (mode ∷ []) (guard ∷ []) ≡ tried_guard xs mode None guard
  unfolding guessed tried_mode scan
  alone_mode l = ap (λ (b : Bool). cond b (tried_guard xs mode None guard) None) (lt-ltb (fft_of mode) (pairs_in (length xs)) l)

  alone_guard : need ≤ lags_in (fft_of mode) xs → tried_guard xs mode None guard ≡ scan (offered xs mode guard) None (range (symbol_of mode guard))
  unfolding tried_guard
  alone_guard h =
      ap (λ (b : Bool). cond b (scan (offered xs mode guard) None (range (symbol_of mode guard))) None) (le-leb need (lags_in (fft_of mode) xs) h)

-- a call that nothing refuses
pub not_refused : (xs : List Float) (modes guards : List ℕ) (scratch : ℕ) → guess_code modes guards (length xs) scratch ≡ 0
    → guess_answer xs modes guards scratch ≡ Ok (guessed xs modes guards)
unfolding guess_answer
not_refused xs modes guards scratch e = rw e

code_10559 : (floats scratch : ℕ) → floats ≡ 2 * 10559 → 3 * 10560 ≤ scratch → guess_code (1 ∷ []) (32 ∷ []) floats scratch ≡ 0
unfolding guess_code
code_10559 floats scratch n r = rw (n, le-leb 31680 scratch r)

pub code_10560 : (floats scratch : ℕ) → floats ≡ 2 * 10560 → 3 * 10561 ≤ scratch → guess_code (1 ∷ []) (32 ∷ []) floats scratch ≡ 0
unfolding guess_code
code_10560 floats scratch n r = rw (n, le-leb 31683 scratch r)

pub one_short : (xs : List Float) (scratch : ℕ) → length xs ≡ 2 * 10559 → 3 * 10560 ≤ scratch → guess_answer xs (1 ∷ []) (32 ∷ []) scratch ≡ Ok None
one_short xs scratch n r =
    not_refused xs (1 ∷ []) (32 ∷ []) scratch (code_10559 (length xs) scratch n r) ∙ ap Ok (alone_short xs 1 32 (rw n (lit< tt)))

-- ---- a search whose first entry is taken and never replaced
module _ (f : Option ModeGuess → ℕ → Option ModeGuess) (g : ModeGuess) (taken : f None 0 ≡ Some g) where
  -- n is counted by a variable, so that the numbers below it are never listed
  first_stays : (n m : ℕ) → n ≡ suc m → ((d : ℕ) → d < n → f (Some g) d ≡ Some g) → scan f None (range n) ≡ Some g
  unfolding scan
  first_stays n zero e k = ap (λ (i : ℕ). scan f None (range i)) e ∙ taken
  first_stays n (suc m) e k =
      ap (λ (i : ℕ). scan f None (range i)) e
      ∙ scan_last f None (range (suc m)) (suc m)
      ∙ ap (λ (b : Option ModeGuess). f b (suc m)) (first_stays (suc m) m refl (λ d l. k d (omega arith)))
      ∙ k (suc m) (omega arith)

-- ---- whole numbers as floats: n / 1, rounded, which is n where it is small enough
abbrev pub whole : Format → ℕ → Float
whole f n = round f false n 1

abbrev number : ℕ → Float
number n = whole binary64 n

-- up to as many as are looked at
number_value : (n : ℕ) → n ≤ 8512 → HasValue (number n) false (n * 1) 1
number_value n h =
    subst (λ (a : ℕ). HasValue (number n) false a 1) (sym (mul-one n)) (round_whole binary64 false n (le_trans h (lit≤ tt)))

signed_sum : (x y : Float) (t : Bool) (a b : ℕ) → HasValue x false (a * 1) 1 → HasValue y t (b * 1) 1
    → add binary64 x y ≡ sum binary64 false (a * 1) t (b * 1) 1
signed_sum x y t a b h k =
    add_value binary64 x y false t a b 1 1 (lit< tt) (lit< tt) h k ∙ sym ((shape binary64 false t a b).is 1 1 (lit< tt))

plus_sum : (a b : ℕ) → sum binary64 false a false b 1 ≡ number (a + b)
unfolding sum
plus_sum a b = refl

minus_sum : (a b : ℕ) → b ≤ a → sum binary64 false a true b 1 ≡ number (a - b)
unfolding sum
minus_sum a b h = ap (λ (t : Bool). cond t (round binary64 true (b - a) 1) (number (a - b))) (le-ltb a b h)

number_plus : (n : ℕ) → n < 8512 → add binary64 (number n) (number 1) ≡ number (suc n)
number_plus n h =
    signed_sum (number n) (number 1) false n 1 (number_value n (omega arith)) (number_value 1 (lit≤ tt)) ∙ plus_sum (n * 1) (1 * 1) ∙ ap number (omega arith)

sub_is : (x y : Float) → sub binary64 x y ≡ add binary64 x (neg y)
unfolding sub
sub_is x y = refl

number_minus : (a : ℕ) → a + 64 ≤ 8512 → sub binary64 (number (a + 64)) (number a) ≡ number 64
number_minus a h =
    sub_is (number (a + 64)) (number a)
    ∙ signed_sum (number (a + 64)) (neg (number a)) true (a + 64) a (number_value (a + 64) h)
    (neg_value (number a) false (a * 1) 1 (number_value a (omega arith)))
    ∙ minus_sum ((a + 64) * 1) (a * 1) (omega arith)
    ∙ ap number (omega arith)

-- ---- terms that are all c: entry k of their prefix sums is v k
module _ (v : ℕ → Float) (c : Float) (grow : (k : ℕ) → k < 8512 → add binary64 (v k) c ≡ v (suc k)) where
  prefix_is : (k : ℕ) (xs : List Float) → ((j : ℕ) → j < length xs → get_or xs j nan ≡ c) → k + length xs ≤ 8512 → (i : ℕ) → i ≤ length xs
      → get_or (prefixes binary64 (v k) xs) i nan ≡ v (k + i)
  unfolding prefixes
  prefix_is k [] same room zero h = ap v (omega arith)
  prefix_is k [] same room (suc i) h = absurd (not-suc-le-zero h)
  prefix_is k (x ∷ xs) same room zero h = ap v (omega arith)
  prefix_is k (x ∷ xs) same room (suc i) h =
      ap (λ (s : Float). get_or (prefixes binary64 s xs) i nan) (ap (add binary64 (v k)) (same 0 (omega arith)) ∙ grow k (omega arith))
      ∙ prefix_is (suc k) xs (λ j l. same (suc j) (suc-le-suc l)) (omega arith) i (le_of_suc-le-suc h)
      ∙ ap v (omega arith)

-- ---- the four guards of an offset within the first symbol
starts_are : (len d : ℕ) → len ≡ 8512 → d < 2112 → starts 2112 64 len d ≡ (d + 0 * 2112) ∷ (d + 1 * 2112) ∷ (d + 2 * 2112) ∷ (d + 3 * 2112) ∷ []
unfolding starts
starts_are len d L D =
    let four : (len - 64) / 2112 ≡ 4 = rw L refl in
    ap (λ (k : ℕ). select (λ a. leb (a + 64) len) (up_to (λ s. d + s * 2112) k)) four
    ∙ rw (
      le-leb (d + 0 * 2112 + 64) len (omega arith),
      le-leb (d + 1 * 2112 + 64) len (omega arith),
      le-leb (d + 2 * 2112 + 64) len (omega arith),
      le-leb (d + 3 * 2112 + 64) len (omega arith),
    )

abbrev four_times : Float → Float
four_times g = add binary64 (add binary64 (add binary64 (add binary64 (plus_zero binary64) g) g) g) g

-- each guard adds g
module _ (v : ℕ → Float) (c g : Float) (start : v 0 ≡ plus_zero binary64) (grow : (k : ℕ) → k < 8512 → add binary64 (v k) c ≡ v (suc k))
    (gap : (a : ℕ) → a + 64 ≤ 8512 → sub binary64 (v (a + 64)) (v a) ≡ g) (t : ℕ → Float) (len : ℕ) (L : len ≡ 8512)
    (same : (i : ℕ) → i < len → t i ≡ c) where
  abbrev sums : List Float
  sums = prefixes binary64 (plus_zero binary64) (up_to t len)

  sums_at : (i : ℕ) → i ≤ len → get_or sums i nan ≡ v i
  sums_at i h =
      let n = length_up_to t len in
      ap (λ (s : Float). get_or (prefixes binary64 s (up_to t len)) i nan) (sym start)
      ∙ prefix_is v c grow 0 (up_to t len) (λ j l. let m = rw n at l in get_or_up_to t len j nan m ∙ same j m) (omega arith) i (omega arith)
      ∙ ap v (omega arith)

  gap_at : (a : ℕ) → a + 64 ≤ len → sub binary64 (get_or sums (a + 64) nan) (get_or sums a nan) ≡ g
  gap_at a h = (λ j. sub binary64 (sums_at (a + 64) h j) (sums_at a (omega arith) j)) ∙ gap a (omega arith)

  window_is : (d : ℕ) → d < 2112 → window_sum sums 64 (starts 2112 64 len d) ≡ four_times g
  unfolding window_sum total
  window_is d D =
      let at : ℕ → Float = λ a. sub binary64 (get_or sums (a + 64) nan) (get_or sums a nan) in
      let e0 : at (d + 0 * 2112) ≡ g = gap_at (d + 0 * 2112) (omega arith) in
      let e1 : at (d + 1 * 2112) ≡ g = gap_at (d + 1 * 2112) (omega arith) in
      let e2 : at (d + 2 * 2112) ≡ g = gap_at (d + 2 * 2112) (omega arith) in
      let e3 : at (d + 3 * 2112) ≡ g = gap_at (d + 3 * 2112) (omega arith) in
      ap (window_sum sums 64) (starts_are len d L D)
      ∙ (λ j. add binary64 (add binary64 (add binary64 (add binary64 (plus_zero binary64) (e0 j)) (e1 j)) (e2 j)) (e3 j))

-- ---- the floats that are met
abbrev sample : Pair
sample = pair (fin false 1 (pos 0)) (fin false 0 (pos 0))

sample_is : pair (whole binary32 1) (whole binary32 0) ≡ sample
unfolding round
sample_is = refl

abbrev one : Float
one = fin false 1 (pos 0)

abbrev no : Bool → Float
no s = fin s 0 (pos 0)

one_by_one : mul binary32 one one ≡ one
unfolding mul
one_by_one = refl

zero_by_minus : mul binary32 (no false) (no true) ≡ no true
unfolding mul
zero_by_minus = refl

one_by_minus : mul binary32 one (no true) ≡ no true
unfolding mul
one_by_minus = refl

zero_by_one : mul binary32 (no false) one ≡ no false
unfolding mul
zero_by_one = refl

real_part : sub binary32 one (no true) ≡ number 1
unfolding round sub
real_part = refl

imaginary_part : add binary32 (no true) (no false) ≡ number 0
unfolding round add
imaginary_part = refl

turned_sample : neg (no false) ≡ no true
unfolding neg
turned_sample = refl

sample_product : product binary32 sample (conjugate sample) ≡ pair (number 1) (number 0)
sample_product =
    let minus : mul binary32 (no false) (neg (no false)) ≡ no true = ap (mul binary32 (no false)) turned_sample ∙ zero_by_minus in
    let cross : mul binary32 one (neg (no false)) ≡ no true = ap (mul binary32 one) turned_sample ∙ one_by_minus in
    let re : sub binary32 (mul binary32 one one) (mul binary32 (no false) (neg (no false))) ≡ number 1 =
    (λ j. sub binary32 (one_by_one j) (minus j)) ∙ real_part in
    let im : add binary32 (mul binary32 one (neg (no false))) (mul binary32 (no false) one) ≡ number 0 =
    (λ j. add binary32 (cross j) (zero_by_one j)) ∙ imaginary_part in
    λ i. record { re = re i; im = im i }

sample_energy : mul binary64 (add binary32 (squared_size binary32 sample) (squared_size binary32 sample)) half ≡ number 1
unfolding of_bits round add mul
sample_energy = refl

number_zero : number 0 ≡ plus_zero binary64
unfolding round of_bits
number_zero = refl

zero_plus : add binary64 (number 0) (number 0) ≡ number 0
unfolding add
zero_plus = refl

zero_minus : sub binary64 (number 0) (number 0) ≡ number 0
unfolding sub
zero_minus = refl

some_four : four_times (number 64) ≡ number 256
unfolding of_bits add
some_four = refl

zero_four : four_times (number 0) ≡ number 0
unfolding of_bits add
zero_four = refl

metric_one : div binary64 (norm64 (pair (number 256) (number 0))) (number 256) ≡ number 1
unfolding round add mul div norm64 root_of
metric_one = refl

one_not_less : lt (number 1) (number 1) ≡ false
unfolding round lt
one_not_less = refl

some_above : le (number 256) (plus_zero binary64) ≡ false
unfolding of_bits round le
some_above = refl

-- ---- samples that are all (1, 0)
abbrev found_guess : ModeGuess
found_guess = record { mode = 1; guard = 32; offset = 0; metric = whole binary64 1; correlation = record { re = whole binary64 256; im = whole binary64 0 } }

module _ (xs : List Float) (n : length xs ≡ 2 * 10560) (h : (i : ℕ) → i < 10560 → pair_at xs i ≡ pair (whole binary32 1) (whole binary32 0)) where
  abbrev lags : ℕ
  lags = lags_in 2048 xs

  lags_are : lags ≡ 8512
  lags_are = rw n refl

  sample_at : (i : ℕ) → i < 10560 → pair_at xs i ≡ sample
  sample_at i l = h i l ∙ sample_is

  product_at : (i : ℕ) → i < lags → lag_product 2048 xs i ≡ pair (number 1) (number 0)
  product_at i l =
      let m = rw lags_are at l in
      (λ j. product binary32 (sample_at i (omega arith) j) (conjugate (sample_at (i + 2048) (omega arith) j))) ∙ sample_product

  energy_at_lem : (i : ℕ) → i < lags → lag_energy 2048 xs i ≡ number 1
  energy_at_lem i l =
      let m = rw lags_are at l in
      (λ j. mul binary64 (add binary32 (squared_size binary32 (sample_at i (omega arith) j))
      (squared_size binary32 (sample_at (i + 2048) (omega arith) j))) half)
      ∙ sample_energy

  abbrev sum_at : (ℕ → Float) → ℕ → Float
  sum_at t d = window_sum (prefixes binary64 (plus_zero binary64) (up_to t lags)) 64 (starts 2112 64 lags d)

  ones_sum : (t : ℕ → Float) → ((i : ℕ) → i < lags → t i ≡ number 1) → (d : ℕ) → d < 2112 → sum_at t d ≡ number 256
  ones_sum t same d D =
      window_is number (number 1) (number 64) number_zero number_plus number_minus t lags lags_are same d D ∙ some_four

  zeros_sum : (t : ℕ → Float) → ((i : ℕ) → i < lags → t i ≡ number 0) → (d : ℕ) → d < 2112 → sum_at t d ≡ number 0
  zeros_sum t same d D =
      window_is (λ k. number 0) (number 0) (number 0) number_zero (λ k l. zero_plus) (λ a l. zero_minus) t lags lags_are same d D ∙ zero_four

  energy_is : (d : ℕ) → d < 2112 → energy_at xs 1 32 d ≡ number 256
  unfolding energy_at energy_prefixes
  energy_is d D = ones_sum (lag_energy 2048 xs) energy_at_lem d D

  correlation_is : (d : ℕ) → d < 2112 → correlation_at xs 1 32 d ≡ pair (number 256) (number 0)
  unfolding correlation_at real_prefixes imaginary_prefixes
  correlation_is d D =
      let re : (i : ℕ) → i < lags → (lag_product 2048 xs i).re ≡ number 1 = λ i l. ap (λ (z : Pair). z.re) (product_at i l) in
      let im : (i : ℕ) → i < lags → (lag_product 2048 xs i).im ≡ number 0 = λ i l. ap (λ (z : Pair). z.im) (product_at i l) in
      λ j. pair (ones_sum (λ i. (lag_product 2048 xs i).re) re d D j) (zeros_sum (λ i. (lag_product 2048 xs i).im) im d D j)

  metric_is : (d : ℕ) → d < 2112 → (guess_at xs 1 32 d).metric ≡ number 1
  unfolding guess_at
  metric_is d D = (λ j. div binary64 (norm64 (correlation_is d D j)) (energy_is d D j)) ∙ metric_one

  has_energy_lem : (d : ℕ) → d < 2112 → le (energy_at xs 1 32 d) (plus_zero binary64) ≡ false
  has_energy_lem d D = ap (λ (e : Float). le e (plus_zero binary64)) (energy_is d D) ∙ some_above

  no_greater : (d : ℕ) → d < 2112 → lt (guess_at xs 1 32 0).metric (guess_at xs 1 32 d).metric ≡ false
  no_greater d D = (λ j. lt (metric_is 0 (lit< tt) j) (metric_is d D j)) ∙ one_not_less

  searched : guessed xs (1 ∷ []) (32 ∷ []) ≡ Some (guess_at xs 1 32 0)
  searched =
      alone_mode xs 1 32 (rw n (lit< tt))
      ∙ alone_guard xs 1 32 (rw n (lit≤ tt))
      ∙ first_stays (offered xs 1 32) (guess_at xs 1 32 0) (first_taken xs 1 32 0 (has_energy_lem 0 (lit< tt))) (symbol_of 1 32) 2111 refl
      (λ d l. only_greater xs 1 32 d (guess_at xs 1 32 0) (no_greater d l))

  guess_is : guess_at xs 1 32 0 ≡ found_guess
  unfolding guess_at
  guess_is =
      let c = correlation_is 0 (lit< tt) in
      λ j. record { mode = 1; guard = 32; offset = 0; metric = metric_is 0 (lit< tt) j; correlation = record { re = (c j).re; im = (c j).im } }

pub ones_found : (xs : List Float) → length xs ≡ 2 * 10560 → ((i : ℕ) → i < 10560 → pair_at xs i ≡ pair (whole binary32 1) (whole binary32 0))
    → guessed xs (1 ∷ []) (32 ∷ [])
    ≡ Some (record { mode = 1; guard = 32; offset = 0; metric = whole binary64 1; correlation = record { re = whole binary64 256; im = whole binary64 0 } })
ones_found xs n h = searched xs n h ∙ ap Some (guess_is xs n h)

pub offset_zero : (xs : List Float) (scratch : ℕ) → length xs ≡ 2 * 10560 → 3 * 10561 ≤ scratch
    → ((i : ℕ) → i < 10560 → pair_at xs i ≡ pair (whole binary32 1) (whole binary32 0))
    → guess_answer xs (1 ∷ []) (32 ∷ []) scratch
    ≡ Ok (Some (record {
      mode = 1;
      guard = 32;
      offset = 0;
      metric = whole binary64 1;
      correlation = record { re = whole binary64 256; im = whole binary64 0 };
    }))
offset_zero xs scratch n r h =
    not_refused xs (1 ∷ []) (32 ∷ []) scratch (code_10560 (length xs) scratch n r) ∙ ap Ok (ones_found xs n h)
