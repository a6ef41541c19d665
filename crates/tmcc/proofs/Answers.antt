-- What the tests on the way to a return make of the definition of `tmcc_soft`.
-- Assumes nothing.
use Rattle.params.specs.declared.Refusal.{Refusal}
use Rattle.std.proofs.Common.{Option, Some, None, Result, Ok, Err}
use Prim.Native.Nat.{ℕ, ◌*◌, ◌≤◌, ◌<◌}
use mathlib.Core.List.{List}
use mathlib.Core.Path.{◌≡◌, refl, ap, ◌∙◌}
use borrow.Author.Tests.{eq-eqb, ne_eqb, le-leb, lt-leb}
use lib.ListN.{length}
use lib.Ieee.{Float}
use Rattle.params.specs.declared.Mode.{Mode}
use Rattle.params.specs.Params.{total_carriers, code_of, kind_codes}
use Rattle.params.specs.declared.Refusal.TheVariants.{BadPhase, NotWhole}
use Rattle.params.specs.declared.SegmentKind.{SegmentKind}
use Rattle.params.specs.declared.SegmentKind.TheVariants.{Coherent, Differential}
use Rattle.frame.specs.declared.FrameLayout.{FrameLayout}
use Rattle.frame.specs.Inner.{Accepted, RefusedLayout}
use Rattle.frame.specs.Answers.{by_refusal}
use Rattle.tmcc.specs.Inner.{filter_number}
use native.Mathlib.Omega.{arith}
use Rattle.tmcc.specs.Tmcc.{soft_value, two_spectra_code, soft_code, soft_answer, SoftTold}
use Rattle.tmcc.specs.Facts.{soft_number_lem}

number_low : (filter : Option SegmentKind) → filter_number filter ≤ 2
number_low None = omega arith
number_low (Some Coherent) = omega arith
number_low (Some Differential) = omega arith

told : (number : Option Mode) (kinds : List ℕ) (xs : List Float) (filter : ℕ) (r : Result Float Refusal) → r ≡ soft_answer number kinds xs filter
    → SoftTold number kinds xs filter r
told number kinds xs filter r e = record { number = ap code_of e ∙ soft_number_lem number kinds xs filter; answer = e }

module _ (kinds : List ℕ) (xs : List Float) (filter : ℕ) where
  pub refused_layout : (number : Option Mode) (refusal : Refusal) → RefusedLayout number kinds refusal → SoftTold number kinds xs filter (Err refusal)
  unfolding two_spectra_code soft_code soft_answer
  refused_layout = by_refusal kinds (λ n r. SoftTold n kinds xs filter (Err r)) (told _ _ _ _ _ refl) (λ m g. told _ _ _ _ _ (rw g))

  -- a layout that was accepted, of a band of k carriers
  module _ {number : Option Mode} {layout : FrameLayout} (a : Accepted number kinds layout) (k : ℕ) (band : k ≡ total_carriers layout.mode) where
    pub refused_length : (length xs ≡ 4 * k → ⊥) → SoftTold number kinds xs filter (Err NotWhole)
    unfolding two_spectra_code soft_code soft_answer
    refused_length h = told _ _ _ _ _ (rw (a.known, a.good, ← band, ne_eqb _ _ h))

    module _ (two : length xs ≡ 4 * k) where
      pub refused_filter : 2 < filter → SoftTold number kinds xs filter (Err BadPhase)
      unfolding two_spectra_code soft_code soft_answer
      refused_filter h = told _ _ _ _ _ (rw (a.known, a.good, ← band, eq-eqb _ _ two, lt-leb _ _ h))

      pub answered : (v : Float) (passing : Option SegmentKind) → filter ≡ filter_number passing
          → v ≡ soft_value layout.mode (kind_codes layout.kinds) (filter_number passing) xs → SoftTold number kinds xs filter (Ok v)
      unfolding two_spectra_code soft_code soft_answer
      answered v passing f e =
          let low : filter ≤ 2 = rw f (number_low passing) in
          told _ _ _ _ _ (rw (a.known, a.good, ← band, eq-eqb _ _ two, le-leb _ _ low) (ap Ok (e ∙ rw (a.same, f))))
