-- `carrier_lists::data_carriers` meets its contract: the parts of the band's roles are the segments'.
-- Assumes nothing.
use Rattle.params.specs.Params.{kind_codes}
use Rattle.carrier_lists.proofs.Buffered.{data_room, data_stored}
use Rattle.carrier_lists.proofs.data_carriers.Goals as goal

pub collect_data-requires : goal.collect_data-requires
collect_data-requires c =
    let layout = c.args.layout in
    data_room layout.mode c.args.phase.number (kind_codes layout.kinds) _ c.band.ensures _ c.args.phase.in_cycle c.requires

pub returns : goal.returns
returns c =
    let args = c.args in
    data_stored args.layout.mode args.phase.number (kind_codes args.layout.kinds) _ c.band.ensures _ c.collect_data.ensures
