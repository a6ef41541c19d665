-- `shift::pattern_sum` meets its contract: the bins moved up are among the ratios.
-- Assumes nothing.
use Rattle.std.proofs.Common.{rules, ◌+◌, ◌%◌, length, get_or, ◌∙◌, refl}
use Rattle.std.specs.Float.Ieee.{binary32, add, nan}
use Rattle.std.proofs.iter.Serving.{serving}
use Rattle.std.proofs.lemmas.Iterator.{YieldsList-from_slice, YieldsList-from_map}
use Rattle.std.proofs.lemmas.Iterator.Adapters.{total_from_yields_List}
use Rattle.shift.specs.Inner.{sum_up}
use Rattle.shift.proofs.Adding.{first_inside, sum_total}
use Rattle.shift.proofs.pattern_sum.Goals as goal

pub sum-requires-clause-can : goal.sum-requires-clause-can
sum-requires-clause-can c = let inside = first_inside _ _ c.requires.inside in grind (serving, inside)

pub returns : goal.returns
unfolding sum_up
returns c =
    let ratios = c.args.ratios.now in
    total_from_yields_List (λ a x. add binary32 a x) _ _ c.sum.ensures.ran
    (YieldsList-from_map _ (λ b. get_or ratios ((b + c.args.up) % length ratios) nan) (YieldsList-from_slice c.args.bins.now cc) refl
    (λ x r q k. search rules))
    ∙ sum_total _
