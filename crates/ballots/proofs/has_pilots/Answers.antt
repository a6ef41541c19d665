-- `ballots::has_pilots` meets its contract: a segment that is coherent has pilots, and where none is there are none.
-- Assumes nothing.
use mathlib.Core.Path.{refl, ◌∙◌}
use Rattle.std.proofs.Common.{rules}
use Rattle.ballots.proofs.BySegment.{some_coherent}
use Rattle.ballots.proofs.has_pilots.Goals as goal

pub returns : goal.returns
returns c = c.contains.ensures.value ∙ some_coherent _ c.args.layout.kinds _ refl refl (search rules)
