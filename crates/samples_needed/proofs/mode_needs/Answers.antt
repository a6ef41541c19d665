-- `samples_needed::mode_needs`: what is worked out of each guard fits, and the greatest of these is the greatest of the definition.
-- Assumes nothing.
use Rattle.std.proofs.Common.{◌<◌, unwrap_or, ap, ◌∙◌, rules}
use Rattle.std.proofs.lemmas.Iterator.{YieldsList-from_slice, YieldsList-from_map}
use Rattle.std.proofs.lemmas.Iterator.Adapters.{serves_from_places}
use Rattle.std.proofs.lemmas.Iterator.Consumers.{reduce_from_yields_List}
use Rattle.std.proofs.lemmas.List.{get_or_default}
use Rattle.lists.specs.Tests.{all_in_at}
use Rattle.samples_needed.specs.Samples.{needed_by, is_guard}
use Rattle.samples_needed.specs.Sizes.{some, bounded}
use Rattle.samples_needed.proofs.Most.{greatest_of}
use Rattle.samples_needed.proofs.mode_needs.Goals as goal

pub max-requires-clause-can : goal.max-requires-clause-can
max-requires-clause-can c =
    let all = c.args.guards.now in (
      tt,
      serves_from_places (YieldsList-from_slice all cc) (λ x q k. search rules)
          (λ x k h e.
          let z : 0 < x.now = some x.now (rw (e ∙ get_or_default all k x.now 0 h) (all_in_at is_guard all c.requires.known k h)) in
          let b = bounded c.args.symbols c.args.mode c.fft_of-n.result x.now c.requires.few c.fft_of-n.ensures in
          let m = b.most in
          search (rules, z, b.guard, b.size, m)),
    )

pub returns : goal.returns
returns c =
    let f = needed_by c.args.symbols c.args.mode in
    let all = c.args.guards.now in
    c.unwrap_or.ensures
    ∙ ap (λ o. unwrap_or o 0)
    (reduce_from_yields_List _ c.map.result _ c.max.ensures.ran
    (YieldsList-from_map _ f (YieldsList-from_slice all cc) c.map.ensures.closure (λ x b q k. search rules)))
    ∙ greatest_of f all
