-- `carrier_role::has_place` meets its contract: what was passed by lies below the place, and the first entry that does not decides.
-- Assumes nothing.
use Rattle.lists.specs.Search.{PassedBy}
use Rattle.carrier_role.proofs.has_place.Given as goal

abbrev pub invariant-loop-place : goal.invariant-loop-place
invariant-loop-place l = PassedBy l.wanted l.row l.place-index
