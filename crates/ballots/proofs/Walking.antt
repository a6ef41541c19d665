-- A run over pilots: what a pilot more, or a gap, makes of it.
-- Assumes nothing.
use Prim.Native.Nat.{ℕ, ◌+◌, ◌*◌, ◌<◌}
use mathlib.Core.Bool.{Bool, true, false, cond}
use mathlib.Core.List.{List, [], ◌∷◌, ◌++◌, map, map-append, append_assoc, append-nil}
use mathlib.Core.Path.{◌≡◌, refl, sym, ap, ◌∙◌}
use native.Mathlib.Numerals.{add-one}
use native.Mathlib.Omega.{arith}
use borrow.Author.Tests.{eq-eqb, ne_eqb}
use lib.Dec.{eqb}
use lib.ListN.{get_or}
use lib.Ieee.{Float, binary32, add}
use Rattle.ieee.specs.Sums.{total, total_append}
use Rattle.params.specs.declared.Mode.{Mode}
use Rattle.complex.specs.Complex.{Pair, of32, scaled, plus, product, conjugate}
use Rattle.complex.specs.Totals.{totals, totals_append}
use Rattle.spectra.specs.Spectra.{pair_at}
use Rattle.prbs.specs.Signs.{band_signs}
use Rattle.pilots.specs.Pilots.{pilot_value}
use Rattle.ballots.specs.declared.Pilot.{Pilot}
use Rattle.ballots.specs.declared.Last.{Last}
use Rattle.ballots.specs.declared.Run.{Run}
use Rattle.std.proofs.Common.{Option, Some, None}
use Rattle.ballots.specs.Ballots.{twelve_apart, times_pilot, pilot_product, pilot_energy, product_sum, energy_sum}
use Rattle.ballots.specs.Inner.{twelfths, Parted, PilotAt, Joined, Kept, Ends, Walked, Walks}

-- ---- one entry more behind the last
grown : (t : Bool) (x : ℕ) (us vs : List ℕ) → cond t (x ∷ (us ++ vs)) (us ++ vs) ≡ cond t (x ∷ us) us ++ vs
grown true x us vs = refl
grown false x us vs = refl

twelve_more : (ks : List ℕ) (a b : ℕ) → twelve_apart ((ks ++ (a ∷ [])) ++ (b ∷ [])) ≡ twelve_apart (ks ++ (a ∷ [])) ++ cond (eqb b (a + 12)) (a ∷ []) []
unfolding twelve_apart
twelve_more [] a b = refl
twelve_more (x ∷ []) a b = grown (eqb a (x + 12)) x [] (cond (eqb b (a + 12)) (a ∷ []) [])
twelve_more (x ∷ z ∷ ks) a b =
    rw (twelve_more (z ∷ ks) a b) (grown (eqb z (x + 12)) x (twelve_apart (z ∷ (ks ++ (a ∷ [])))) (cond (eqb b (a + 12)) (a ∷ []) []))

behind : (ks earlier : List ℕ) (last n : ℕ) → ks ≡ earlier ++ (last ∷ [])
    → twelve_apart (ks ++ (n ∷ [])) ≡ twelve_apart ks ++ cond (eqb n (last + 12)) (last ∷ []) []
behind ks earlier last n e = rw e (twelve_more earlier last n)

-- ---- one term more in a sum
module _ (mode : Mode) (y : ℕ → Pair) where
  product_more : (ks : List ℕ) (a : ℕ) → product_sum mode y (ks ++ (a ∷ [])) ≡ plus binary32 (product_sum mode y ks) (pilot_product mode y a)
  unfolding product_sum totals
  product_more ks a = rw (map-append (pilot_product mode y) ks (a ∷ [])) (totals_append binary32 _ (map (pilot_product mode y) ks) _)

  energy_more : (ks : List ℕ) (a : ℕ) → energy_sum mode y (ks ++ (a ∷ [])) ≡ add binary32 (energy_sum mode y ks) (pilot_energy mode y a)
  unfolding energy_sum total
  energy_more ks a = rw (map-append (pilot_energy mode y) ks (a ∷ [])) (total_append binary32 _ (map (pilot_energy mode y) ks) _)

-- ---- the run s over the pilots ks, where the next is `next`
-- a run's sums are those of the pilots ks
record Sums (mode : Mode) (y : ℕ → Pair) (ks : List ℕ) (r : Run) : Type 0 where
  sum : of32 r.sum ≡ product_sum mode y (twelve_apart ks)
  energy : r.energy ≡ energy_sum mode y (twelve_apart ks)

module _ {mode : Mode} {y : ℕ → Pair} {ks : List ℕ} {next : ℕ} {s : Run} (w : Walked mode y ks next s) where
  sums : {r : Run} (last : Option Last) → s.last ≡ last → Joined s (times_pilot mode y next) r → Sums mode y (ks ++ (next ∷ [])) r
  sums (Some before) e j =
      let k : Kept mode y ks next before = rw e at w.ends in
      let more : twelve_apart (ks ++ (next ∷ [])) ≡ twelve_apart ks ++ (k.last ∷ []) =
      behind ks k.earlier k.last next k.ends ∙ rw (eq-eqb next (k.last + 12) k.twelve) in
      record {
        sum = j.sum ∙ rw (e, more, product_more mode y (twelve_apart ks) k.last)
            (λ i. plus binary32 (w.sum i) (product binary32 (times_pilot mode y (k.twelve i)) (conjugate (k.value i))));
        energy = j.energy ∙ rw (e, more, energy_more mode y (twelve_apart ks) k.last, w.energy, k.norm, k.twelve);
      }
  sums None e j =
      let apart : Ends mode y ks next None = rw e at w.ends in
      let same = apart next (omega arith) in
      record { sum = j.sum ∙ rw (e, same) w.sum; energy = j.energy ∙ rw (e, same) w.energy }

  pub walk_join : {r : Run} → Joined s (times_pilot mode y next) r → Walked mode y (ks ++ (next ∷ [])) (next + 12) r
  walk_join j =
      let g = sums s.last refl j in
      record {
        sum = g.sum;
        energy = g.energy;
        ends = rw j.keeps (record { earlier = ks; last = next; ends = refl; twelve = refl; value = j.value; norm = j.norm });
      }

  gap : (last : Option Last) → Ends mode y ks next last → (n : ℕ) → next < n → twelve_apart (ks ++ (n ∷ [])) ≡ twelve_apart ks
  gap (Some before) k n h =
      behind ks k.earlier k.last n k.ends ∙ rw (ne_eqb n (k.last + 12) (λ q. omega (arith, k.twelve))) (append-nil (twelve_apart ks))
  gap None apart n h = apart n (omega arith)

  pub walk_apart : {r : Run} {to : ℕ} → next < to → Parted s r → Walked mode y ks to r
  walk_apart h p =
      record {
        sum = ap of32 p.sum ∙ w.sum;
        energy = p.energy ∙ w.energy;
        ends = rw p.last (λ n l. gap s.last w.ends n (omega arith));
      }

-- ---- carriers 12 apart, one after another
-- the value that the code takes of a carrier
value_is : (mode : Mode) (y : List Float) (signs : List ℕ) (k : ℕ) (v : Pair) → signs ≡ band_signs mode
    → v ≡ scaled binary32 (pair_at y k) (pilot_value (get_or signs k 0)).re → v ≡ times_pilot mode (pair_at y) k
unfolding times_pilot
value_is mode y signs k v e h = h ∙ rw e

module _ {s : Run} {y : List Float} {signs : List ℕ} {lowest : ℕ} where
  pub none_walked : Walks s y signs lowest 0 s
  none_walked = record { walked = λ mode e ks w. let z : lowest + 12 * 0 ≡ lowest = omega arith in rw (append-nil ks, z) w }

  pub one_walked : {i : ℕ} {t r : Run} {p : Pilot} → Walks s y signs lowest i t → PilotAt y signs (lowest + 12 * i) p → Joined t (of32 p.value) r
      → Walks s y signs lowest (i + 1) r
  one_walked {i} {t} {r} {p} w a j =
      record {
        walked = λ mode e ks b.
            let next : lowest + 12 * (i + 1) ≡ lowest + 12 * i + 12 = omega arith in
            let k = lowest + 12 * i in
            let more : ks ++ twelfths lowest (i + 1) ≡ (ks ++ twelfths lowest i) ++ (k ∷ []) =
            rw add-one (sym (append_assoc ks (twelfths lowest i) (k ∷ []))) in
            let value : of32 p.value ≡ times_pilot mode (pair_at y) k = value_is mode y signs k (of32 p.value) e a.value in
            rw (next, more) (walk_join (w.walked mode e ks b) (rw value at j));
      }
