-- `angle::octant_of` meets its contract.
-- Assumes nothing.
use mathlib.Core.Path.{◌≡◌, sym, subst}
use Prim.Native.Nat.{ℕ, ◌+◌, ◌/◌, ◌%◌, ◌≤◌}
use native.Mathlib.Omega.{arith}
use Rattle.angle.specs.Angle.{mixed, octant}
use Rattle.angle.specs.Arctangents.{entry_at}
use Rattle.angle.specs.Table.{mixed_most, entry_most, octant_most}
use Rattle.angle.proofs.octant_of.Goals as goal

-- the sum of both products
few : (lo hi q : ℕ) → lo ≡ entry_at (q / 65536) → hi ≡ entry_at (q / 65536 + 1) → mixed lo hi (q % 65536) ≤ 2147483648
few lo hi q l h =
    mixed_most lo hi (q % 65536) 32768 (subst (λ (x : ℕ). x ≤ 32768) (sym l) (entry_most (q / 65536)))
    (subst (λ (x : ℕ). x ≤ 32768) (sym h) (entry_most (q / 65536 + 1))) (omega arith)

pub overflow_mul-result : goal.overflow_mul-result
overflow_mul-result c =
    let e = c.ends_at-e in
    record { fits = omega (arith, few e.result.lo e.result.hi c.args.q e.ensures.0 e.ensures.1) }

pub overflow_mul-result-2 : goal.overflow_mul-result-2
overflow_mul-result-2 c =
    let e = c.ends_at-e in
    record { fits = omega (arith, few e.result.lo e.result.hi c.args.q e.ensures.0 e.ensures.1) }

pub overflow_add-result : goal.overflow_add-result
overflow_add-result c =
    let e = c.ends_at-e in
    record { fits = omega (arith, few e.result.lo e.result.hi c.args.q e.ensures.0 e.ensures.1) }

pub overflow_add-result-2 : goal.overflow_add-result-2
overflow_add-result-2 c =
    let e = c.ends_at-e in
    record { fits = omega (arith, few e.result.lo e.result.hi c.args.q e.ensures.0 e.ensures.1) }

pub returns : goal.returns
unfolding octant
returns c =
    let e = c.ends_at-e in
    let q = c.args.q in
    let r : (mixed e.result.lo e.result.hi (q % 65536) + 131072) / 262144 ≡ octant q =
    λ i. (mixed (e.ensures.0 i) (e.ensures.1 i) (q % 65536) + 131072) / 262144 in
    (r, subst (λ (x : ℕ). x ≤ 8192) (sym r) (octant_most q))
