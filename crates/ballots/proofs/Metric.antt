-- A run over the band, segment by segment from the lowest place upward, and the metric that it comes to.
-- Assumes nothing.
use Prim.Native.Nat.{ℕ, ◌+◌, ◌*◌, ◌/◌, ◌≤◌, ◌<◌}
use mathlib.Core.Bool.{true, false}
use Rattle.std.proofs.Common.{Some, None}
use mathlib.Core.List.{List, [], ◌++◌, append-nil}
use mathlib.Core.Path.{◌≡◌, refl, sym, ap, ◌∙◌}
use native.Mathlib.Nat.{suc-mul}
use native.Mathlib.Numerals.{add-one}
use native.Mathlib.Omega.{arith}
use lib.ListN.{length, get_or, take}
use lib.Ieee.{Float, binary32, div, lt}
use Rattle.ieee.specs.Constants.{plus_zero}
use Rattle.ieee.specs.Sums.{total}
use Rattle.lists.specs.Lists.{joined}
use Rattle.lists.specs.Fill.{joined_more}
use Rattle.params.specs.declared.Mode.{Mode}
use Rattle.params.specs.declared.SegmentKind.TheVariants.{Coherent, Differential}
use Rattle.params.specs.Params.{carriers_per_segment, total_carriers, kind_from}
use Rattle.params.specs.Laws.{sized}
use Rattle.ofdm.specs.Band.{order, segment_at}
use Rattle.ofdm.specs.Laws.{place_of_segment, segment_ends}
use Rattle.complex.specs.Complex.{Pair, pair, of32}
use Rattle.complex.specs.Totals.{totals}
use Rattle.spectra.specs.Spectra.{pair_at}
use Rattle.prbs.specs.Signs.{band_signs}
use Rattle.prbs.specs.Buffered.{signs_length}
use Rattle.ballots.specs.declared.Run.{Run}
use Rattle.ballots.specs.Ballots.{pilots, twelve_apart, pilot_pairs, product_sum, energy_sum, phase_metric}
use Rattle.ballots.specs.Inner.{twelfths, Parted, Walked, Walkable, Walks, Spectrum, coherence}
use Rattle.ballots.specs.Pilots.{twelves}
use Rattle.ballots.proofs.BySegment.{segment_pilots, pilots_by_segment, coherent_pilots, differential_pilots}
use Rattle.ballots.proofs.Walking.{walk_apart}

-- no pilot yet
none_yet : (mode : Mode) (y : ℕ → Pair) (next : ℕ) (r : Run) → r.last ≡ None → of32 r.sum ≡ pair (plus_zero binary32) (plus_zero binary32)
    → r.energy ≡ plus_zero binary32 → Walked mode y [] next r
unfolding twelve_apart product_sum energy_sum totals total
none_yet mode y next r j s e =
    record {
      sum = s;
      energy = e;
      ends = rw j (λ n l. refl);
    }

-- the pilots of the segments below place
abbrev before : Mode → List ℕ → ℕ → ℕ → List ℕ
before mode kinds phase place = joined (segment_pilots mode kinds phase) (take place order)

-- the run is over them; c is the code's count of a segment's carriers
pub record WalkedTo (mode : Mode) (kinds : List ℕ) (y : List Float) (phase c place : ℕ) (run : Run) : Type 0 where
  pub carriers : c ≡ carriers_per_segment mode
  pub passed : place ≤ 13
  pub walked : Walked mode (pair_at y) (before mode kinds phase place) (place * c + 3 * phase) run

module _ {mode : Mode} {kinds : List ℕ} {y : List Float} {phase c : ℕ} where
  pub begin : {run : Run} → c ≡ carriers_per_segment mode → run.last ≡ None → of32 run.sum ≡ pair (plus_zero binary32) (plus_zero binary32)
      → run.energy ≡ plus_zero binary32 → WalkedTo mode kinds y phase c 0 run
  begin {run} e j s g = record { carriers = e; passed = omega arith; walked = none_yet mode (pair_at y) (0 * c + 3 * phase) run j s g }

  module _ {place : ℕ} {run : Run} (w : WalkedTo mode kinds y phase c place run) where
    more : place < 13 → before mode kinds phase (place + 1) ≡ before mode kinds phase place ++ segment_pilots mode kinds phase (segment_at place)
    more h = joined_more (segment_pilots mode kinds phase) order place h

    next : (place + 1) * c ≡ place * c + c
    next = ap (λ (n : ℕ). n * c) (add-one place) ∙ suc-mul place c

    -- the segment at this place is coherent, and k is its lowest pilot
    module _ (l : phase < 4) (h : place < 13) {k : ℕ} (at : k ≡ place * carriers_per_segment mode + 3 * phase) where
      from : k ≡ place * c + 3 * phase
      from = at ∙ rw w.carriers

      -- its pilots lie within the band
      ends : (place * c + c < total_carriers mode) × (12 * (c / 12) ≡ c)
      ends = (rw w.carriers (segment_ends mode place h), omega (arith, w.carriers, twelves mode))

      pub walkable : {signs : List ℕ} → Spectrum mode (length y) signs → Walkable k (c / 12) (length signs)
      walkable {signs} p =
          let size : length signs ≡ total_carriers mode = ap length p.signed ∙ signs_length mode in
          record {
            some = omega (arith, w.carriers, (sized mode).carriers_low);
            inside = omega (arith, from, ends);
          }

      pub again_coherent : {r : Run} {signs : List ℕ} → signs ≡ band_signs mode → kind_from (get_or kinds (segment_at place) 0) ≡ Coherent
          → Walks run y signs k (c / 12) r → WalkedTo mode kinds y phase c (place + 1) r
      again_coherent p e s =
          let part : segment_pilots mode kinds phase (segment_at place) ≡ twelfths k (c / 12) =
          coherent_pilots mode kinds phase (segment_at place) l e ∙ rw (place_of_segment place h, at, w.carriers) in
          let to : k + 12 * (c / 12) ≡ (place + 1) * c + 3 * phase = omega (arith, from, ends, next) in
          let here : Walked mode (pair_at y) (before mode kinds phase place) k run = rw from w.walked in
          record { carriers = w.carriers; passed = omega arith; walked = rw (more h, part, sym to) (s.walked mode p (before mode kinds phase place) here) }

    pub again_differential : {r : Run} → place < 13 → kind_from (get_or kinds (segment_at place) 0) ≡ Differential → Parted run r
        → WalkedTo mode kinds y phase c (place + 1) r
    again_differential {r} h e g =
        let none = differential_pilots mode kinds phase (segment_at place) e in
        let same : before mode kinds phase (place + 1) ≡ before mode kinds phase place = more h ∙ rw none (append-nil (before mode kinds phase place)) in
        let apart : Walked mode (pair_at y) (before mode kinds phase place) ((place + 1) * c + 3 * phase) r =
        walk_apart w.walked (omega (arith, next, w.carriers, (sized mode).carriers_low)) g in
        record { carriers = w.carriers; passed = omega arith; walked = rw same apart }

    -- the run over all segments
    module _ (h : 13 ≤ place) where
      abbrev ks : List ℕ
      ks = pilot_pairs mode kinds phase

      all : before mode kinds phase place ≡ pilots mode kinds phase
      all = let z : place ≡ 13 = omega (arith, w.passed) in rw z (sym (pilots_by_segment mode kinds phase))

      sum : of32 run.sum ≡ product_sum mode (pair_at y) ks
      sum = rw all at w.walked.sum

      energy : run.energy ≡ energy_sum mode (pair_at y) ks
      energy = rw all at w.walked.energy

      pub some_energy : lt (plus_zero binary32) run.energy ≡ true → Some (div binary32 run.sum.re run.energy) ≡ coherence mode kinds (pair_at y) phase
      unfolding phase_metric
      some_energy t = rw (sym energy, t) (ap (λ (z : Pair). Some (div binary32 z.re run.energy)) sum)

      pub no_energy : lt (plus_zero binary32) run.energy ≡ false → None ≡ coherence mode kinds (pair_at y) phase
      no_energy t = rw (sym energy, t)
