-- `carrier_lists::collect_continual` meets its contract: the groups are counted first, and then stored behind one another.
-- Assumes nothing.
use Rattle.carrier_lists.proofs.Stored.{refused_short, has_all_room, stored_whole}
use Rattle.carrier_lists.proofs.collect_continual.Goals as goal

pub returns-then-out-n : goal.returns-then-out-n
returns-then-out-n c =
    refused_short c.args.roles.now _ _ c.count-n.ensures c.if-out-n.true

pub store_continual-requires : goal.store_continual-requires
store_continual-requires c =
    record {
      some = c.requires.0;
      few = c.requires.1;
      fits = has_all_room c.args.roles.now c.args.out.now _ c.count-n.ensures c.if-out-n.false;
    }

pub returns : goal.returns
returns c =
    stored_whole c.args.roles.now _ _ c.count-n.ensures c.if-out-n.false _ c.store_continual.ensures
