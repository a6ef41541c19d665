-- `pilot_phase::Recording::count_votes` meets its contract: the counts are those of the votes of the spectra passed, and of those that were heard.
-- Assumes nothing.
use Prim.Native.Nat.{ℕ, ◌*◌, ◌/◌}
use mathlib.Core.Path.{◌≡◌, ap, ◌∙◌}
use native.Mathlib.Omega.{arith}
use lib.ListN.{length}
use Rattle.pilot_phase.proofs.Counting.{begin, few_votes, few_heard, again, done}
use Rattle.pilot_phase.proofs.Recording.count_votes.Goals as goal

pub loop-j-init : goal.loop-j-init
loop-j-init c = begin

pub overflow_add-all : goal.overflow_add-all
overflow_add-all c =
    let floats = ap (λ (n : ℕ). 2 * n) c.total_carriers-w.ensures in
    few_votes _ floats c.args.self.now.whole c.loop-j-test.true c.loop-j.invariant _ (omega arith)

pub overflow_add-heard : goal.overflow_add-heard
overflow_add-heard c =
    let floats = ap (λ (n : ℕ). 2 * n) c.total_carriers-w.ensures in
    rw c.from.ensures (few_heard _ floats c.args.self.now.whole c.loop-j-test.true c.loop-j.invariant _ (omega arith) _)

pub loop-j-preserved : goal.loop-j-preserved
loop-j-preserved c =
    let floats = ap (λ (n : ℕ). 2 * n) c.total_carriers-w.ensures in
    rw c.from.ensures (again _ floats c.args.self.now.whole c.loop-j-test.true c.loop-j.invariant c.ballot_of-ballot.ensures)

pub returns : goal.returns
returns c =
    let n = length c.args.self.now.spectra.now in
    let all : c.loop-j.j ≡ n / (2 * c.total_carriers-w.result) = omega arith in
    done (all ∙ ap (λ (k : ℕ). n / (2 * k)) c.total_carriers-w.ensures) c.loop-j.invariant
