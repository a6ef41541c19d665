-- What `put_pattern` keeps: the bins of the segments so far are stored behind one another.
-- Assumes nothing.
use Prim.Native.Nat.{ℕ, zero, suc, ◌+◌, ◌*◌, ◌-◌, ◌≤◌, ◌<◌}
use mathlib.Core.List.{List, [], ◌∷◌, ◌++◌, map, map-append, map-map}
use mathlib.Core.Path.{◌≡◌, refl, ap, ◌∙◌}
use native.Mathlib.Numerals.{add-one}
use native.Mathlib.Omega.{arith}
use lib.Dec.{lit≤}
use lib.ListN.{length, set, take, length-append, length-map}
use lib.Seq.{sets-eq, take_at}
use Rattle.lists.specs.Lists.{range, joined, Inside}
use Rattle.lists.specs.Fill.{joined_range, sets_append}
use Rattle.params.specs.declared.Mode.{Mode}
use Rattle.params.specs.declared.Mode.TheVariants.{M1, M2, M3}
use Rattle.params.specs.declared.SegmentKind.TheVariants.{Coherent}
use Rattle.params.specs.Params.{carriers_per_segment, total_carriers, fft_size}
use Rattle.tables.specs.Places.{ac1_of}
use Rattle.ofdm.specs.Band.{place_of, bin_of}
use Rattle.shift.specs.Shift.{pattern_carriers, pattern}
use Rattle.shift.specs.Inner.{segment_bins, Put}
use Rattle.shift.proofs.AcRow.{row_few, bin_below}

-- ys stored behind xs
put_more : (xs ys old mid out : List ℕ) (at i r : ℕ) → Put xs old at i mid → Put ys mid i r out → Put (xs ++ ys) old at r out
put_more xs ys old mid out at i r p q =
    record {
      next = rw length-append (omega (arith, p.next, q.next));
      stored = q.stored ∙ (rw (p.stored, p.next) (sets_append xs ys old at));
    }

-- the pattern is the segments' bins, and the edge's
map_joined : (b : ℕ → ℕ) (g : ℕ → ℕ → ℕ) (f : ℕ → List ℕ) (xs : List ℕ)
    → map b (joined (λ s. map (g s) (f s)) xs) ≡ joined (λ s. map (λ p. b (g s p)) (f s)) xs
map_joined b g f [] = refl
map_joined b g f (x ∷ xs) = rw (map-append, map-map, map_joined b g f xs)

parts_are : (mode : Mode) (xs : List ℕ) (k : ℕ)
    → map (bin_of mode) (joined (λ seg. map (λ p. place_of seg * carriers_per_segment mode + p) (ac1_of mode Coherent seg)) xs ++ (k ∷ []))
    ≡ joined (segment_bins mode) xs ++ (bin_of mode k ∷ [])
unfolding segment_bins
parts_are mode xs k =
    rw (map-append, map_joined (bin_of mode) (λ seg p. place_of seg * carriers_per_segment mode + p) (ac1_of mode Coherent) xs)

pattern_is : (mode : Mode) (seg : ℕ) → seg ≡ 13 → pattern mode ≡ joined (segment_bins mode) (range seg) ++ (bin_of mode (total_carriers mode - 1) ∷ [])
unfolding pattern pattern_carriers
pattern_is mode seg e = rw e (parts_are mode (range 13) (total_carriers mode - 1))

pub pattern_few : (mode : Mode) → length (pattern mode) ≤ 105
unfolding pattern pattern_carriers
pattern_few M1 = lit≤ tt
pattern_few M2 = lit≤ tt
pattern_few M3 = lit≤ tt

-- what f makes of a list lies below n where all that f gives does
map_inside : (f : ℕ → ℕ) (n : ℕ) → ((k : ℕ) → f k < n) → (ks : List ℕ) → Inside (map f ks) n
map_inside f n h [] i l = absurd (omega arith)
map_inside f n h (k ∷ ks) zero l = h k
map_inside f n h (k ∷ ks) (suc i) l = map_inside f n h ks i (omega arith)

-- a carrier's bin is a remainder modulo n
pub pattern_inside : (mode : Mode) → Inside (pattern mode) (fft_size mode)
unfolding pattern
pattern_inside mode = map_inside (bin_of mode) (fft_size mode) (bin_below mode) (pattern_carriers mode)

-- a pattern stored from the front is the front
front_is : (mode : Mode) (old out : List ℕ) (r : ℕ) → 105 ≤ length old → Put (pattern mode) old 0 r out → take r out ≡ pattern mode
front_is mode old out r room p =
    let fits : 0 + length (pattern mode) ≤ length old = omega (arith, pattern_few mode) in
    rw (p.stored, sets-eq (pattern mode) old 0 fits) (take_at (pattern mode) _ r (omega (arith, p.next)))

module _ (mode : Mode) (old : List ℕ) where
  -- the segments below seg are stored
  pub record Filled (seg at : ℕ) (out : List ℕ) : Type 0 where
    pub low : at ≤ 8 * seg
    pub front : Put (joined (segment_bins mode) (range seg)) old 0 at out

  module _ (seg at : ℕ) (out : List ℕ) (w : Filled seg at out) where
    pub fill_again : (at' : ℕ) (out' : List ℕ) → seg < 13 → Put (segment_bins mode seg) out at at' out' → Filled (seg + 1) at' out'
    unfolding segment_bins
    fill_again at' out' h p =
        record {
          low = omega (arith, w.low, p.next, row_few mode seg h, simp length-map at p.next);
          front = rw (add-one seg, joined_range (segment_bins mode) seg) (put_more _ _ _ _ _ _ _ _ w.front p);
        }

    -- with the edge behind them, the front is the pattern
    pub fill_done : (k edge : ℕ) → 105 ≤ length old → 13 ≤ seg → seg ≤ 13 → k ≡ total_carriers mode → edge ≡ bin_of mode (k - 1)
        → take (at + 1) (set out at edge) ≡ pattern mode
    fill_done k edge room h h' e b =
        let last : edge ≡ bin_of mode (total_carriers mode - 1) = b ∙ ap (λ (n : ℕ). bin_of mode (n - 1)) e in
        let p : Put (pattern mode) old 0 (at + 1) (set out at edge) =
        rw (last, pattern_is mode seg (omega arith)) (put_more _ _ _ _ _ _ _ _ w.front (record { next = refl; stored = refl })) in
        front_is mode old _ _ room p
