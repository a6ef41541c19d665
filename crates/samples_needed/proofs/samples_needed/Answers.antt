-- `samples_needed::samples_needed`: the greatest of what each mode needs is the greatest of all modes and guards.
-- Assumes nothing.
use Rattle.std.proofs.Common.{◌≡◌, ℕ, map, unwrap_or, ap, sym, ◌∙◌, rules}
use Rattle.std.proofs.lemmas.Iterator.{YieldsList-from_slice, YieldsList-from_map}
use Rattle.std.proofs.lemmas.Iterator.Consumers.{reduce_from_yields_List}
use Rattle.samples_needed.specs.Samples.{needed_by, greatest, samples_needed}
use Rattle.samples_needed.proofs.Most.{greatest_joined, greatest_of}
use Rattle.samples_needed.proofs.samples_needed.Goals as goal

pub returns : goal.returns
returns c =
    let all = c.args.modes.now in
    let f = λ (mode : ℕ). map (needed_by c.args.symbols mode) c.args.guards.now in
    let g = λ (mode : ℕ). greatest (f mode) in
    let most : c.unwrap_or-most.result ≡ samples_needed all c.args.guards.now c.args.symbols =
    c.unwrap_or-most.ensures
    ∙ ap (λ o. unwrap_or o 0)
    (reduce_from_yields_List _ c.map.result _ c.max.ensures.ran
    (YieldsList-from_map _ g (YieldsList-from_slice all cc) c.map.ensures.closure (λ x b q k. search rules)))
    ∙ greatest_of g all ∙ sym (greatest_joined f all) in
    search rules
