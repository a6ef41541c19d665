-- What the tests on the way to a return make of the definition of `estimate_grid`.
-- Assumes nothing.
use Rattle.std.proofs.Common.{Option}
use Prim.Native.Nat.{ℕ}
use mathlib.Core.Bool.{false}
use mathlib.Core.List.{List}
use mathlib.Core.Path.{◌≡◌, refl, sym, ◌∙◌}
use borrow.Author.Tests.{eq-eqb, ne_eqb}
use lib.Dec.{eqb}
use lib.ListN.{length}
use lib.Ieee.{Float}
use Rattle.params.specs.declared.Mode.{Mode}
use Rattle.params.specs.declared.Refusal.{Refusal}
use Rattle.params.specs.Params.{refusal_number, kind_codes}
use Rattle.params.specs.Laws.{some_number}
use Rattle.frame.specs.declared.FrameLayout.{FrameLayout}
use Rattle.frame.specs.Inner.{Accepted, RefusedLayout}
use Rattle.frame.specs.Answers.{by_refusal}
use Rattle.pilot_times.specs.declared.Current.{Current}
use Rattle.chanest.specs.Grid.{grid, window_code, grid_code, grid_leaves, GridEstimated}

module _ (kinds : List ℕ) (xs : List Float) (current : Current) (old : List Float) where
  -- a layout's refusal is the operation's
  pub bad_layout : (number : Option Mode) (refusal : Refusal) → RefusedLayout number kinds refusal
      → GridEstimated number kinds xs current old (refusal_number refusal) old
  unfolding grid_code grid_leaves
  bad_layout =
      by_refusal kinds (λ n r. GridEstimated n kinds xs current old (refusal_number r) old) (record { code = refl; leaves = refl })
      (λ m g. record { code = rw g; leaves = rw g })

  -- an accepted layout, and what refuses the other numbers
  module _ {number : Option Mode} {layout : FrameLayout} (a : Accepted number kinds layout) where
    pub bad_numbers : (refusal : Refusal) → refusal_number refusal ≡ window_code layout.mode (length xs) current (length old)
        → GridEstimated number kinds xs current old (refusal_number refusal) old
    unfolding grid_code grid_leaves
    bad_numbers refusal e =
        let no : eqb (window_code layout.mode (length xs) current (length old)) 0 ≡ false = ne_eqb _ 0 (λ z. some_number refusal (e ∙ z)) in
        record { code = rw (a.known, a.good) e; leaves = rw (a.known, a.good, no) }

    pub answered : {now : List Float} → 0 ≡ window_code layout.mode (length xs) current (length old)
        → now ≡ grid layout.mode (kind_codes layout.kinds) xs current old → GridEstimated number kinds xs current old 0 now
    unfolding grid_code grid_leaves
    answered o p =
        record { code = rw (a.known, a.good) o; leaves = rw (a.known, a.good, eq-eqb _ 0 (sym o)) (rw a.same at p) }
