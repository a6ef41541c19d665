-- `prbs::Prbs::init` meets its contract: the digits are written from the highest on.
-- Assumes nothing.
use Rattle.std.proofs.Common.{ℕ, ◌≡◌, ◌-◌, ◌/◌, ◌%◌, ◌^◌, ◌++◌, drop}
use Rattle.lists.specs.Lists.{up_to}
use Rattle.prbs.proofs.Prbs.init.Given as goal

abbrev pub digit : ℕ → ℕ → ℕ
digit row i = row / 2 ^ (10 - i) % 2

abbrev pub invariant-loop-i : goal.invariant-loop-i
invariant-loop-i l = l.bit-items ≡ up_to (digit l.row) l.i ++ drop l.i l.initial.bit-items
