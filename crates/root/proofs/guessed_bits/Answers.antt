-- `root::guessed_bits` meets its contract: a guess that `is_near` has passed is the digits of the narrowed root, by `guessed`.
-- Assumes nothing.
use Rattle.root.proofs.Guessed.{guessed}
use Rattle.root.proofs.guessed_bits.Goals as goal

pub returns-then-is_near : goal.returns-then-is_near
returns-then-is_near c =
    let y = c.near_root-y in
    guessed c.args.b y.result c.requires.0 c.requires.1 y.ensures.1 (rw c.new.ensures at (c.is_near.ensures c.if-is_near.true))
