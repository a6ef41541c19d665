-- `carrier_lists::continual_carriers` meets its contract: the band's roles are those of a mode's carriers.
-- Assumes nothing.
use native.Mathlib.Omega.{arith}
use mathlib.Core.Path.{ap, ◌∙◌}
use lib.ListN.{length}
use Rattle.params.specs.Params.{kind_codes}
use Rattle.params.specs.Laws.{sized}
use Rattle.carrier_lists.proofs.Buffered.{roles_length}
use Rattle.carrier_lists.proofs.continual_carriers.Goals as goal

pub collect_continual-requires : goal.collect_continual-requires
collect_continual-requires c =
    let layout = c.args.layout in
    let n = ap length c.band.ensures ∙ roles_length layout.mode 0 (kind_codes layout.kinds) in
    let s = sized layout.mode in
    rw n (omega (arith, s.band), s.band_high)
