-- `ratio::refusal` meets its contract: the refusal of the spectra, and then the test behind it.
-- Assumes nothing.
use Prim.Native.Nat.{ℕ}
use mathlib.Core.Path.{◌≡◌, refl, sym, ◌∙◌}
use borrow.Author.Tests.{eq-eqb, ne_eqb}
use lib.Dec.{eqb}
use Rattle.std.proofs.lemmas.Result.{err_from_is_err_and}
use Rattle.lists.specs.Refusals.{unless, refused_first, let_pass}
use Rattle.params.specs.declared.Refusal.{Refusal}
use Rattle.params.specs.Params.{refusal_number}
use Rattle.params.specs.Laws.{some_number}
use Rattle.spectra.specs.Spectra.{spectra_code}
use Rattle.spectra.specs.Codes.{later_counts}
use Rattle.ratio.specs.Ratio.{metric_code}
use Rattle.ratio.proofs.refusal.Goals as goal

module _ (len floats room : ℕ) where
  by_spectra : (refusal : Refusal) → refusal_number refusal ≡ spectra_code len floats 0 → refusal_number refusal ≡ metric_code len floats room 0
  by_spectra refusal told =
      sym (refused_first (spectra_code len floats) (later_counts len floats) _ (unless (eqb room len) 7 0) told (some_number refusal))

  by_length : (k : ℕ) → 0 ≡ spectra_code len floats 0 → unless (eqb room len) 7 0 ≡ k → k ≡ metric_code len floats room 0
  by_length k told e =
      sym (let_pass (spectra_code len floats) (later_counts len floats) 0 (unless (eqb room len) 7 0) told refl ∙ e)

pub returns-in_err-refusal : goal.returns-in_err-refusal
returns-in_err-refusal c =
    let p = err_from_is_err_and c.from_residual.result c.from_residual.ensures.1 in
    let s = c.args in
    rw (p.1, p.2) (by_spectra s.len s.floats s.room _ c.in_err-refusal.ensures)

pub returns-then-room-len : goal.returns-then-room-len
returns-then-room-len c = let s = c.args in by_length s.len s.floats s.room 7 c.in_ok-refusal.ensures (rw (ne_eqb _ _ c.if-room-len.true))

pub returns : goal.returns
returns c = let s = c.args in by_length s.len s.floats s.room 0 c.in_ok-refusal.ensures (rw (eq-eqb _ _ c.if-room-len.false))
