-- `spectra::refusal` meets its contract: floats of less than a spectrum are not whole spectra.
-- Assumes nothing.
use Prim.Native.Nat.{ℕ, ◌*◌, ◌/◌, ◌%◌, ◌<◌}
use mathlib.Core.Path.{◌≡◌, refl, sym, ◌∙◌}
use native.Mathlib.Nat.{mod-eq_of_lt}
use borrow.Author.Tests.{ne_eqb}
use native.Mathlib.Omega.{arith}
use Rattle.spectra.specs.Spectra.{spectra_code}
use Rattle.std.proofs.Common.{rules}
use Rattle.spectra.proofs.refusal.Goals.{then-len-eq0-via-then-len-eq0, then-len-eq0-via-else-len-eq0+then-n-len}
use Rattle.spectra.proofs.refusal.Goals as goal

not_whole : (len n : ℕ) → (n % (2 * len) ≡ 0 → ⊥) → 5 ≡ spectra_code len n 0
not_whole len n h = rw (ne_eqb _ _ h) refl

too_few : (len n : ℕ) → (n ≡ 0 → ⊥) → n / 2 < len → n % (2 * len) ≡ 0 → ⊥
too_few len n some h e = some (sym (mod-eq_of_lt (omega arith)) ∙ e)

pub returns-then-len-eq0 : goal.returns-then-len-eq0
returns-then-len-eq0 c =
    elim c.then-len-eq0.branch [
      | then-len-eq0-via-then-len-eq0 w ↦ search rules
      | then-len-eq0-via-else-len-eq0+then-n-len w ↦ not_whole _ _ (too_few _ _ c.if-n-eq0.false w.if-n-len.true)
    ]
