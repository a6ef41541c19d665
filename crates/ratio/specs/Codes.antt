-- What the refusal of ratios decides: the tests behind it count only where it is 0, and then the floats are whole spectra, 1 to 1,024 of them,
-- with as many ratios lent as a spectrum has bins. The ratios are written where nothing is refused.
-- Assumes nothing.
use Rattle.std.specs.Prelude.{ℕ, ◌≤◌, ◌<◌, List, ◌≡◌, eqb, Float, length}
use borrow.Author.Tests.{eqb-true, eq-eqb}
use Rattle.std.proofs.Common.{lit<, lit≤}
use Rattle.lists.specs.Select.{length_up_to}
use Rattle.lists.specs.Refusals.{unless, unless_most, passed, InFront, one_in_front, both_in_front}
use Rattle.spectra.specs.Spectra.{spectra_in, spectra_code}
use Rattle.spectra.specs.Codes as spectra
use Rattle.ratio.specs.Ratio.{bin_ratios, metric_code, metric_leaves, MetricTaken}

pub later_counts : (len floats room : ℕ) → InFront (metric_code len floats room)
later_counts len floats room =
    both_in_front (spectra_code len floats) (unless (eqb room len) 7) (spectra.later_counts len floats) (one_in_front (eqb room len) 7 (lit< tt))

pub code_most : (len floats room later : ℕ) → later ≤ 11 → metric_code len floats room later ≤ 11
code_most len floats room later l = spectra.code_most len floats _ (unless_most (eqb room len) 7 later 11 (lit≤ tt) l)

pub record Accepted (len floats room later : ℕ) : Type 0 where
  pub some : 0 < spectra_in len floats
  pub few : spectra_in len floats ≤ 1024
  pub bins : room ≡ len
  pub rest : later ≡ 0

pub accepted : (len floats room later : ℕ) → metric_code len floats room later ≡ 0 → Accepted len floats room later
accepted len floats room later e =
    let s = spectra.accepted len floats _ e in
    let l = passed (eqb room len) 7 later (lit< tt) s.rest in
    record { some = s.some; few = s.few; bins = eqb-true room len l.first; rest = l.rest }

-- ---- what is left of the lent ratios
pub ratios_length : (len : ℕ) (xs : List Float) → length (bin_ratios len xs) ≡ len
unfolding bin_ratios
ratios_length len xs = length_up_to _ len

module _ (len : ℕ) (xs old now : List Float) (r : ℕ) (taken : MetricTaken len xs old r now) where
  pub left_written : r ≡ 0 → now ≡ bin_ratios len xs
  unfolding metric_leaves
  left_written z = rw (← taken.code, eq-eqb r 0 z) at taken.leaves
