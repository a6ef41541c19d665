-- `frame::FrameLayout::of_codes` meets its contract: each kind is its code's, and so the band is that of the codes.
-- Assumes nothing.
use Rattle.std.specs.Prelude.{◌≡◌, List, length, map, get_or}
use Rattle.std.proofs.Common.{rules, sym, ap, ◌∙◌}
use Rattle.std.proofs.Math.ListN.{get_or-map}
use Rattle.std.proofs.lemmas.List.{length-map, same_lists, get_or_default}
use Rattle.params.specs.declared.SegmentKind.{SegmentKind}
use Rattle.params.specs.declared.SegmentKind.TheVariants.{Coherent}
use Rattle.params.specs.Params.{kind_from, kind_codes}
use Rattle.frame.specs.Roles.{wide}
use Rattle.frame.specs.Answers.{wide_codes}
use Rattle.frame.proofs.FrameLayout.of_codes.Goals as goal

pub returns-clause-kinds : goal.returns-clause-kinds
returns-clause-kinds c =
    let sized : length c.args.codes ≡ 13 = search rules in
    let long : length c.map.result ≡ length c.args.codes = c.map.ensures.items.long ∙ sym sized in
    same_lists _ _ (long ∙ sym (length-map c.args.codes kind_from)) (λ i d h.
    let (p, q, called) = c.map.ensures.items.at i 0 Coherent (search (rules, c.map.ensures.items.long)) in
    let kind : get_or c.map.result i Coherent ≡ kind_from (get_or c.args.codes i 0) = search (rules, called.met) in
    get_or_default c.map.result i d Coherent h ∙ kind ∙ sym (get_or-map kind_from c.args.codes i 0)
    ∙ get_or_default (map kind_from c.args.codes) i Coherent d (rw length-map (search (rules, long))))

pub returns-clause-band : goal.returns-clause-band
returns-clause-band c = ap (λ (kinds : List SegmentKind). wide (kind_codes kinds)) (returns-clause-kinds c) ∙ wide_codes c.args.codes
