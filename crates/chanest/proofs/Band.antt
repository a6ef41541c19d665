-- The points of the band, place after place: what the definition has at a place, and how the written points grow by a segment, by the
-- continual pilot that closes the segment below, and by points that keep their contents.
-- Assumes nothing.
use Prim.Native.Nat.{ℕ, ◌+◌, ◌*◌, ◌-◌, ◌/◌, ◌%◌, ◌≤◌, ◌<◌}
use mathlib.Core.Bool.{Bool, true, false, cond, ◌&&◌}
use mathlib.Core.List.{List}
use mathlib.Core.Path.{◌≡◌, sym, ap, ◌∙◌}
use native.Mathlib.Decide.{dec_lt}
use native.Mathlib.Nat.{suc-mul, zero-mul, mul-le-mul_right}
use native.Mathlib.Numerals.{add-one}
use native.Mathlib.Omega.{arith}
use borrow.Author.Tests.{eq-eqb, ne_eqb, lt-ltb, le-ltb}
use lib.Arith.{digits_div, digits_mod}
use lib.Dec.{eqb, ltb}
use lib.ListN.{length}
use lib.Ieee.{Float}
use Rattle.params.specs.declared.Mode.{Mode}
use Rattle.params.specs.Laws.{sized}
use Rattle.complex.specs.Complex.{Pair}
use Rattle.spectra.specs.Spectra.{pair_at}
use Rattle.pilot_times.specs.declared.Current.{Current}
use Rattle.chanest.specs.Grid.{segment_points, grid_points, coherent_at, scattered_at, continual_at, value_at, grid_of}
use Rattle.chanest.specs.Places.{pointed}
use Rattle.chanest.specs.Inner.{Written}
use Rattle.chanest.proofs.Writing.{kept, together, exchanged, whole}

-- whether the place below is coherent
abbrev pub closes_at : List ℕ → ℕ → Bool
closes_at kinds place = ltb 0 place && coherent_at kinds (place - 1)

module _ (mode : Mode) (kinds : List ℕ) (xs : List Float) (current : Current) (entry : List Float) where
  abbrev n : ℕ
  n = segment_points mode

  abbrev value : List Float → ℕ → Pair
  value old i = value_at mode kinds xs current (pair_at old i) i

  some : 0 < n
  some = omega (arith, (sized mode).carriers_low)

  -- ---- the definition at a point of a place
  module _ (place : ℕ) {i : ℕ} (l : place * n ≤ i) (h : i < place * n + n) where
    over : i / n ≡ place
    over = let e : i ≡ place * n + (i - place * n) = omega arith in ap (λ (j : ℕ). j / n) e ∙ digits_div place (omega arith)

    rest : i % n ≡ i - place * n
    rest = let e : i ≡ place * n + (i - place * n) = omega arith in ap (λ (j : ℕ). j % n) e ∙ digits_mod place (omega arith)

    abbrev pick : Bool → Bool → Pair
    pick a b = cond a (scattered_at mode xs current i) (cond b (continual_at mode xs current i) (pair_at entry i))

    value_is : value entry i ≡ pick (coherent_at kinds place) (eqb (i - place * n) 0 && (ltb 0 i && coherent_at kinds (place - 1)))
    unfolding value_at
    value_is = λ t. pick (coherent_at kinds (over t)) (eqb (rest t) 0 && (ltb 0 i && coherent_at kinds (over t - 1)))

    pub scattered : coherent_at kinds place ≡ true → scattered_at mode xs current i ≡ value entry i
    scattered e = sym (value_is ∙ ap (λ (a : Bool). pick a (eqb (i - place * n) 0 && (ltb 0 i && coherent_at kinds (place - 1)))) e)

    module _ (e : coherent_at kinds place ≡ false) where
      -- the lowest point of the place
      lowest : i ≡ place * n → value entry i ≡ cond (closes_at kinds place) (continual_at mode xs current i) (pair_at entry i)
      lowest z = value_is ∙ (λ t. pick (e t) (starts t && (sign (dec_lt 0 place) t && coherent_at kinds (place - 1))))
        where
          starts : eqb (i - place * n) 0 ≡ true
          starts = eq-eqb (i - place * n) 0 (omega arith)

          sign : Dec (0 < place) → ltb 0 i ≡ ltb 0 place
          sign (yes p) =
              let q : 1 * n ≤ place * n = mul-le-mul_right n p in
              lt-ltb 0 i (omega (arith, some)) ∙ sym (lt-ltb 0 place p)
          sign (no p) =
              let q : place ≡ 0 = omega arith in
              let r : place * n ≡ 0 = rw q (zero-mul n) in
              le-ltb 0 i (omega arith) ∙ sym (le-ltb 0 place (omega arith))

      -- the others
      upper : place * n < i → value entry i ≡ pair_at entry i
      upper z = value_is ∙ (λ t. pick (e t) (ne_eqb (i - place * n) 0 (λ y. omega arith) t && (ltb 0 i && coherent_at kinds (place - 1))))

      pub closing : closes_at kinds place ≡ true → i ≡ place * n → continual_at mode xs current i ≡ value entry i
      closing g z = sym (lowest z ∙ ap (λ (b : Bool). cond b (continual_at mode xs current i) (pair_at entry i)) g)

      pub outside : (i ≡ place * n → closes_at kinds place ≡ false) → pair_at entry i ≡ value entry i
      outside g = by (dec_lt (place * n) i)
        where
          by : Dec (place * n < i) → pair_at entry i ≡ value entry i
          by (yes p) = sym (upper p)
          by (no p) =
              let z : i ≡ place * n = omega arith in
              sym (lowest z ∙ ap (λ (b : Bool). cond b (continual_at mode xs current i) (pair_at entry i)) (g z))

  -- ---- the points of a place
  module _ (place : ℕ) where
    coherent_place : {now : List Float} → coherent_at kinds place ≡ true
        → Written (scattered_at mode xs current) (place * n) (place * n + n) entry now → Written (value entry) (place * n) (place * n + n) entry now
    coherent_place e p = exchanged p (λ i l b. scattered place l b e)

    module _ (e : coherent_at kinds place ≡ false) where
      open_place : closes_at kinds place ≡ false → Written (value entry) (place * n) (place * n + n) entry entry
      open_place g = kept (value entry) (place * n) (place * n + n) entry (λ i l h. outside place l h e (λ z. g))

      closed_place : {now : List Float} → closes_at kinds place ≡ true
          → Written (continual_at mode xs current) (place * n) (place * n + 1) entry now → Written (value entry) (place * n) (place * n + n) entry now
      closed_place {now} g p =
          together (omega arith) (omega (arith, some)) (exchanged p (λ i l h. closing place l (omega (arith, some)) e g (omega arith)))
          (kept (value entry) (place * n + 1) (place * n + n) now
          (λ i l h. p.above i l ∙ outside place (omega arith) h e (λ z. absurd (omega arith))))

  -- ---- the points below a place
  pub record WrittenTo (place : ℕ) (below : Bool) (now : List Float) : Type 0 where
    pub passed : place ≤ 14
    pub under : below ≡ closes_at kinds place
    pub lower : Written (value entry) 0 (place * n) entry now

  -- behind the last place lies the whole grid
  pub all : {place : ℕ} {below : Bool} {now : List Float} → WrittenTo place below now → 14 ≤ place → length entry ≡ 2 * grid_points mode
      → now ≡ grid_of mode kinds xs current entry
  unfolding grid_of
  all {place} w h size =
      let z : place ≡ 14 = omega (arith, w.passed) in
      whole size (omega (arith, (pointed mode).all, (sized mode).carriers_low)) (rw z at w.lower)

-- ---- a place more, `from` being its lowest point
module _ (mode : Mode) (kinds : List ℕ) (xs : List Float) (current : Current) (entry : List Float) {place : ℕ} {below : Bool} {now : List Float}
    (w : WrittenTo mode kinds xs current entry place below now) (h : place < 14) {from : ℕ} (at : from ≡ place * segment_points mode) where
  abbrev m : ℕ
  m = segment_points mode

  above_it : closes_at kinds (place + 1) ≡ coherent_at kinds place
  above_it = let z : place + 1 - 1 ≡ place = omega arith in λ t. lt-ltb 0 (place + 1) (omega arith) t && coherent_at kinds (z t)

  next : (place + 1) * m ≡ place * m + m
  next = ap (λ (k : ℕ). k * m) (add-one place) ∙ suc-mul place m

  -- what is written of the place, of what the places below left
  further : {coherent : Bool} {now' : List Float} → coherent ≡ coherent_at kinds place
      → Written (λ i. value_at mode kinds xs current (pair_at now i) i) (place * m) (place * m + m) now now'
      → WrittenTo mode kinds xs current entry (place + 1) coherent now'
  further e p =
      record {
        passed = omega arith;
        under = e ∙ sym above_it;
        lower =
            rw next
            (together (omega arith) (omega arith) w.lower
            (exchanged p (λ i u b. ap (λ (v : Pair). value_at mode kinds xs current v i) (w.lower.above i u))));
      }

  pub low : from ≤ 13 * m
  low = rw at (mul-le-mul_right m (omega arith))

  module _ {coherent : Bool} (e : coherent ≡ coherent_at kinds place) where
    pub again_coherent : {now' : List Float} → coherent ≡ true → Written (scattered_at mode xs current) from (from + m) now now'
        → WrittenTo mode kinds xs current entry (place + 1) coherent now'
    again_coherent c p =
        let q : Written (scattered_at mode xs current) (place * m) (place * m + m) now _ = rw at at p in
        further e (coherent_place mode kinds xs current now place (sym e ∙ c) q)

    pub again_closed : {now' : List Float} → coherent ≡ false → below ≡ true → Written (continual_at mode xs current) from (from + 1) now now'
        → WrittenTo mode kinds xs current entry (place + 1) coherent now'
    again_closed c b p =
        let q : Written (continual_at mode xs current) (place * m) (place * m + 1) now _ = rw at at p in
        further e (closed_place mode kinds xs current now place (sym e ∙ c) (sym w.under ∙ b) q)

    pub again_open : coherent ≡ false → below ≡ false → WrittenTo mode kinds xs current entry (place + 1) coherent now
    again_open c b = further e (open_place mode kinds xs current now place (sym e ∙ c) (sym w.under ∙ b))
