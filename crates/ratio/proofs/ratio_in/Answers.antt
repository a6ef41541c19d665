-- `ratio::ratio_in` meets its contract: the pairs of a slot are accepted, so that what `bin_ratio` answers is their ratio.
-- Assumes nothing.
use Prim.Native.Nat.{◌*◌}
use mathlib.Core.Path.{ap, ◌∙◌}
use lib.Ieee.{Float}
use Rattle.std.proofs.Common.{Result}
use Rattle.std.specs.Result.{result_unwrap_or}
use Rattle.params.specs.declared.Refusal.{Refusal}
use Rattle.ratio.proofs.Bins.{part_ratio}
use Rattle.ratio.proofs.ratio_in.Goals as goal

pub returns : goal.returns
returns c =
    let own = part_ratio _ (c.args.i * c.args.bins.slot) _ _ c.requires.room c.requires.some c.requires.few c.bin_ratio.ensures in
    c.unwrap_or.ensures ∙ ap (λ (a : Result Float Refusal). result_unwrap_or a _) own
