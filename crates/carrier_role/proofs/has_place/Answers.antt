-- `carrier_role::has_place` meets its contract: what was passed by lies below the place, and the first entry that does not decides.
-- Assumes nothing.
use Rattle.std.proofs.Common.{arith}
use Rattle.lists.specs.Search.{search_stops}
use Rattle.carrier_role.proofs.has_place.Goals as goal

pub returns-then-wanted-entry : goal.returns-then-wanted-entry
returns-then-wanted-entry c =
    search_stops _ _ _ c.requires c.loop-place-test.true (omega (arith, c.if-wanted-entry.true)) c.loop-place.invariant
