-- `winner::next_to` meets its contract: the maximum without one phase is the largest of the others.
-- Assumes nothing.
use Rattle.std.proofs.Common.{ℕ, [], ◌∷◌, get_or, not, nat_eq, unwrap_or, ap, ◌∙◌, refl, rules}
use Rattle.std.proofs.lemmas.Iterator.{YieldsList-from_range, YieldsList-from_map}
use Rattle.std.proofs.lemmas.Iterator.Consumers.{YieldsList-from_filter, YieldsList-at, reduce_from_yields_List}
use Rattle.winner.specs.Winner.{next_to}
use Rattle.winner.proofs.Most.{most_kept}
use Rattle.winner.proofs.next_to.Goals as goal

pub returns : goal.returns
unfolding next_to
returns c =
    let p = c.args.p in
    let f = λ (q : ℕ). get_or c.args.counts q 0 in
    let t = λ (q : ℕ). nat_eq q p in
    c.unwrap_or.ensures
    ∙ ap (λ o. unwrap_or o 0)
    (reduce_from_yields_List _ c.map.result _ c.max.ensures.ran
    (YieldsList-from_map _ f
    (YieldsList-at c.map.ensures.source
    (YieldsList-from_filter _ (λ q. not (t q)) (YieldsList-from_range 0 4 4 (cc) refl) c.filter.ensures.closure (λ x b q k. search rules)))
    c.map.ensures.closure (λ x b q k. search rules)))
    ∙ most_kept t f (0 ∷ 1 ∷ 2 ∷ 3 ∷ [])
