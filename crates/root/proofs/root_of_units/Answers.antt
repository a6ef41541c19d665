-- `root::root_of_units` meets its contract: m units times 2 ^ k are m, or twice m, times a power of 4, by `half`.
-- Assumes nothing.
use mathlib.Core.Path.{subst}
use Prim.Native.Nat.{ℕ}
use Rattle.root.specs.Inner.{RootBits}
use Rattle.root.proofs.Finished.{half}
use Rattle.root.proofs.root_of_units.Goals as goal

pub returns : goal.returns
returns c = subst (λ (n : ℕ). RootBits n c.root_bits.result) (half c.args.m c.args.k).2 (rw c.new.ensures at c.root_bits.ensures)
