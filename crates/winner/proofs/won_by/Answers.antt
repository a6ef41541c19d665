-- `winner::won_by` meets its contract: of the four phases, `max_by_key` picks the best.
-- Assumes nothing.
use Rattle.std.proofs.Common.{◌≡◌, get_or, refl, ◌∙◌, rules}
use Rattle.std.proofs.lemmas.Iterator.{YieldsList-from_range}
use Rattle.winner.specs.Winner.{won_by}
use Rattle.winner.specs.Facts.{won_phase}
use Rattle.winner.proofs.Most.{best}
use Rattle.winner.proofs.won_by.Goals as goal

pub returns : goal.returns
unfolding won_by
returns c =
    let counts = c.args.counts in
    let e : c.unwrap_or.result ≡ won_by counts =
    c.unwrap_or.ensures
    ∙ best _ _ (λ p. get_or counts p 0) (λ x k q h. search rules) (YieldsList-from_range 0 4 4 (cc) refl) _ c.max_by_key.ensures.ran in
    record { won = e; phase = rw e (won_phase counts) }
