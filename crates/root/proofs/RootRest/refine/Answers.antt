-- `root::RootRest::refine` meets its contract: each number stays within a word by `bounds`, and the two ways out are `refined` and `refined_less`.
-- Assumes nothing.
use Prim.Native.Nat.{◌+◌, ◌*◌}
use native.Mathlib.Omega.{arith}
use native.Mathlib.Nat.{div-add-mod'}
use Rattle.root.proofs.Halving.{bounds, root_pos, refined, refined_less}
use Rattle.root.proofs.RootRest.refine.Goals as goal

pub overflow_mul-t : goal.overflow_mul-t
overflow_mul-t c = let f = bounds _ _ _ _ _ c.requires in record { fits = omega arith }

pub overflow_add-t : goal.overflow_add-t
overflow_add-t c = let f = bounds _ _ _ _ _ c.requires in record { fits = omega arith }

pub overflow_mul-x : goal.overflow_mul-x
overflow_mul-x c = let f = bounds _ _ _ _ _ c.requires in record { fits = omega arith }

pub overflow_add-x : goal.overflow_add-x
overflow_add-x c = let f = bounds _ _ _ _ _ c.requires in record { fits = omega arith }

pub overflow_mul-y : goal.overflow_mul-y
overflow_mul-y c = let f = bounds _ _ _ _ _ c.requires in record { fits = omega arith }

pub returns-then-y-x : goal.returns-then-y-x
returns-then-y-x c =
    let a = c.args in
    refined _ _ _ _ _ c.requires _ _ (div-add-mod' (a.self.r * a.b + a.hi) (2 * a.self.s)) (bounds _ _ _ _ _ c.requires) c.if-y-x.true

pub overflow_mul-result : goal.overflow_mul-result
overflow_mul-result c = let f = bounds _ _ _ _ _ c.requires in record { fits = omega arith }

pub overflow_add-result : goal.overflow_add-result
overflow_add-result c = let f = bounds _ _ _ _ _ c.requires in record { fits = omega arith }

pub overflow_sub-result-4 : goal.overflow_sub-result-4
overflow_sub-result-4 c = let f = bounds _ _ _ _ _ c.requires in omega (arith, root_pos _ _ c.if-y-x.false)

pub returns : goal.returns
returns c =
    let a = c.args in
    refined_less _ _ _ _ _ c.requires _ _ (div-add-mod' (a.self.r * a.b + a.hi) (2 * a.self.s)) (bounds _ _ _ _ _ c.requires) c.if-y-x.false
