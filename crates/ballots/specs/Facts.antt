-- There is a ballot for each spectrum. And no pair is lost: two pilots 12 carriers apart are a pair, also across the border of two coherent
-- segments.
-- Assumes nothing.
use Rattle.std.specs.Prelude.{ℕ, ◌+◌, ◌*◌, true, List, ◌≡◌, length, Float}
use Rattle.lists.specs.Select.{length_up_to, chosen_ascending}
use Rattle.lists.specs.Tests.{memb}
use Rattle.params.specs.declared.Mode.{Mode}
use Rattle.params.specs.Params.{total_carriers}
use Rattle.spectra.specs.Spectra.{spectra_in}
use Rattle.frame.specs.Roles.{band_roles, wide}
use Rattle.ballots.specs.Ballots.{pilots, pilot_pairs, ballot_at, ballots}
use Rattle.ballots.specs.Pilots.{is_pilot, pilots_leave, apart_member}

pub ballots_length : (mode : Mode) (kinds : List ℕ) (xs : List Float) → length (ballots mode kinds xs) ≡ spectra_in (total_carriers mode) (length xs)
unfolding ballots
ballots_length mode kinds xs = length_up_to (ballot_at mode kinds xs) _

-- two pilots 12 carriers apart are a pair, whatever segments they lie in: also across the border of two coherent segments
pub pairs_counted : (mode : Mode) (kinds : List ℕ) (phase a : ℕ) → memb a (pilots mode kinds phase) ≡ true
    → memb (a + 12) (pilots mode kinds phase) ≡ true → memb a (pilot_pairs mode kinds phase) ≡ true
unfolding pilots
pairs_counted mode kinds phase a m n =
    let ascending = chosen_ascending is_pilot 0 (band_roles mode phase (wide kinds)) in
    apart_member (3 * phase) 0 a (pilots mode kinds phase) ascending (pilots_leave mode kinds phase) m n
