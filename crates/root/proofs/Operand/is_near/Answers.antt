-- `root::Operand::is_near` meets its contract: its two tests are the contract's, the lower one written with 8 * y + 4, and 27 digits squared fit a word.
-- Assumes nothing.
use mathlib.Core.Path.{◌≡◌, sym, subst}
use Prim.Native.Nat.{ℕ, ◌+◌, ◌-◌, ◌*◌, ◌≤◌}
use native.Mathlib.Nat.{mul-add, add-mul}
use native.Mathlib.Omega.{arith}
use lib.Dec.{T, leb→le}
use Rattle.root.proofs.Operand.is_near.Goals as goal

lower : (a h u : ℕ) → h ≡ u + 8 → h * h + 68 ≤ a + 16 * h → u * u + 4 ≤ a
lower a h u e k = let q : h * h ≡ u * u + 16 * u + 64 = rw e (rw (add-mul, mul-add) (omega arith)) in omega arith

pub returns : goal.returns
returns c =
    let a = c.args.self.a in
    let y = c.args.y in
    let h = 8 * y + 4 in
    λ e. record { low = lower a h (8 * y - 4) (omega arith) (leb→le (h * h + 68) (a + 16 * h) (subst T (sym e) tt)); high = omega (arith, c.if-s-self.false) }
