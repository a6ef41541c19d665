-- `host::codes_of` meets its contract: each code is the kind's.
-- Assumes nothing.
use Rattle.std.specs.Prelude.{◌≡◌, length}
use Rattle.std.proofs.Common.{rules, ◌∙◌}
use Rattle.std.proofs.Math.ListN.{get_or-map}
use Rattle.std.proofs.Math.Path.{sym}
use Rattle.std.proofs.lemmas.Grind.{same_number_lists}
use Rattle.params.specs.declared.SegmentKind.TheVariants.{Coherent}
use Rattle.params.specs.Params.{kind_code, kind_codes}
use Rattle.params.specs.Laws.{codes_length}
use Rattle.host.proofs.codes_of.Goals as goal

pub returns : goal.returns
unfolding kind_codes
returns c =
    let sized : length c.args.kinds ≡ 13 = search rules in
    same_number_lists _ _ (c.map.ensures.items.long ∙ sym sized ∙ sym (codes_length c.args.kinds)) (λ i h.
    let (p, q, called) = c.map.ensures.items.at i Coherent 0 (search (rules, c.map.ensures.items.long)) in
    called.met ∙ sym (get_or-map kind_code c.args.kinds i Coherent))
