-- `carrier_lists::store_continual` meets its contract: the groups are stored behind one another, and the edge behind them.
-- Assumes nothing.
use mathlib.Core.Path.{refl}
use Rattle.carrier_lists.proofs.Stored.{continual_stored}
use Rattle.carrier_lists.proofs.store_continual.Goals as goal

pub returns : goal.returns
returns c =
    let r = c.requires in
    continual_stored _ _ r _ _ c.collect-tmcc.ensures _ _ c.collect-ac.ensures _ _ c.collect-cp.ensures _ refl
