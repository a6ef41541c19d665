-- What the tests of `refusal` make of the code of a grid's numbers, and what a code of 0 says of them.
-- Assumes nothing.
use Rattle.std.specs.Prelude.{ℕ, ◌+◌, ◌*◌, ◌/◌, ◌%◌, ◌≤◌, ◌<◌, true, cond, ◌≡◌, eqb, leb, ltb}
use Rattle.std.proofs.Common.{sym, ◌∙◌, arith, lit<}
use borrow.Author.Tests.{eq-eqb, ne_eqb, le-leb, lt-leb, lt-ltb, le-ltb, eqb-true, leb-true, ltb-true}
use Rattle.lists.specs.Refusals.{unless, passed}
use Rattle.params.specs.declared.Mode.{Mode}
use Rattle.params.specs.Params.{total_carriers}
use Rattle.spectra.specs.Spectra.{spectra_in, spectra_code}
use Rattle.spectra.specs.Codes.{later_counts}
use Rattle.spectra.specs.Codes.{accepted as spectra_accepted}
use Rattle.pilot_times.specs.declared.Current.{Current}
use Rattle.chanest.specs.Grid.{grid_points, window_code}

module _ (mode : Mode) (floats : ℕ) (current : Current) (n : ℕ) where
  abbrev result : ℕ
  result = window_code mode floats current n

  -- numbers that nothing refuses
  pub record Accepted : Type 0 where
    pub cycle : current.phase < 4
    pub whole : floats % (2 * total_carriers mode) ≡ 0
    pub few : spectra_in (total_carriers mode) floats ≤ 1024
    pub inside : current.index < spectra_in (total_carriers mode) floats
    pub short : current.w ≤ 64
    pub room : n ≡ 2 * grid_points mode

  pub accepted : result ≡ 0 → Accepted
  unfolding window_code
  accepted e =
      let p = passed (ltb current.phase 4) 3 _ (lit< tt) e in
      let s = spectra_accepted (total_carriers mode) floats _ p.rest in
      let i = passed (ltb current.index (spectra_in (total_carriers mode) floats)) 4 _ (lit< tt) s.rest in
      let b = passed (leb current.w 64) 10 _ (lit< tt) i.rest in
      let l = passed (eqb n (2 * grid_points mode)) 7 0 (lit< tt) b.rest in
      record {
        cycle = ltb-true _ _ p.first;
        whole = s.whole;
        few = s.few;
        inside = ltb-true _ _ i.first;
        short = leb-true _ _ b.first;
        room = eqb-true _ _ l.first;
      }

  -- the tests in their order; k carriers a spectrum
  pub by_phase : 3 < current.phase → 3 ≡ result
  unfolding window_code
  by_phase h = rw (le-ltb current.phase 4 h)

  module _ (k : ℕ) (size : k ≡ total_carriers mode) (p : current.phase ≤ 3) (code : ℕ) (told : code ≡ spectra_code k floats 0) where
    cycle : ltb current.phase 4 ≡ true
    cycle = lt-ltb current.phase 4 (omega arith)

    abbrev behind : ℕ
    behind = unless (ltb current.index (floats / (2 * k))) 4 (unless (leb current.w 64) 10 (unless (eqb n (2 * (k / 3 + 2))) 7 0))

    result_is : result ≡ cond (eqb code 0) behind code
    unfolding window_code
    result_is = rw (told, cycle, ← size) (later_counts k floats _)

    pub by_spectra : (code ≡ 0 → ⊥) → code ≡ result
    by_spectra h = sym (result_is ∙ rw (ne_eqb code 0 h))

    module _ (z : code ≡ 0) where
      later : result ≡ behind
      later = result_is ∙ rw (eq-eqb code 0 z)

      pub by_index : floats / (2 * k) ≤ current.index → 4 ≡ result
      by_index h = sym (later ∙ rw (le-ltb _ _ h))

      module _ (i : current.index < floats / (2 * k)) where
        pub by_window : 64 < current.w → 10 ≡ result
        by_window h = sym (later ∙ rw (lt-ltb _ _ i, lt-leb _ _ h))

        module _ (b : current.w ≤ 64) where
          pub by_length : (n ≡ 2 * (k / 3 + 2) → ⊥) → 7 ≡ result
          by_length h = sym (later ∙ rw (lt-ltb _ _ i, le-leb _ _ b, ne_eqb _ _ h))

          pub by_none : n ≡ 2 * (k / 3 + 2) → 0 ≡ result
          by_none h = sym (later ∙ rw (lt-ltb _ _ i, le-leb _ _ b, eq-eqb _ _ h))
