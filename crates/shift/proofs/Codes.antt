-- The refusal that the tests of `integer_cfo` decide.
-- Assumes nothing.
use Rattle.std.proofs.Common.{Some}
use Prim.Native.Nat.{ℕ, ◌/◌, ◌≤◌, ◌<◌}
use mathlib.Core.Path.{◌≡◌, refl, ◌∙◌}
use borrow.Author.Tests.{le-leb, lt-leb}
use lib.Dec.{leb}
use Rattle.lists.specs.Refusals.{unless, refused_first, let_pass}
use Rattle.params.specs.declared.Mode.{Mode}
use Rattle.params.specs.Params.{fft_size}
use Rattle.ratio.specs.Ratio.{metric_code}
use Rattle.ratio.specs.Codes.{later_counts}
use Rattle.shift.specs.Shift.{shift_code}

-- the operation's code, by the tests on the way
module _ (m : Mode) (floats room bound n code : ℕ) (size : n ≡ fft_size m) (told : code ≡ metric_code n floats room 0) where
  abbrev result : ℕ
  result = shift_code (Some m) floats room bound

  abbrev behind : ℕ
  behind = unless (leb bound (n / 2)) 8 0

  result_is : result ≡ metric_code n floats room behind
  unfolding shift_code
  result_is = rw size refl

  pub by_spectra : (code ≡ 0 → ⊥) → result ≡ code
  by_spectra h = result_is ∙ refused_first (metric_code n floats room) (later_counts n floats room) code behind told h

  module _ (z : code ≡ 0) where
    later : result ≡ behind
    later = result_is ∙ let_pass (metric_code n floats room) (later_counts n floats room) code behind told z

    pub by_bound : n / 2 < bound → result ≡ 8
    by_bound h = later ∙ rw (lt-leb bound (n / 2) h)

    pub by_none : bound ≤ n / 2 → result ≡ 0
    by_none h = later ∙ rw (le-leb bound (n / 2) h)
