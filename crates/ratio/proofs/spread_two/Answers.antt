-- `ratio::spread_two` meets its contract: slot by slot.
-- Assumes nothing.
use Prim.Native.Nat.{ℕ, ◌+◌, ◌*◌, ◌<◌}
use mathlib.Core.List.{List}
use lib.Ieee.{Float}
use Rattle.complex.specs.Complex.{Pair}
use Rattle.spectra.specs.Spectra.{pair_at}
use mathlib.Core.Path.{◌≡◌, refl, ap, ◌∙◌}
use lib.ListN.{length, drop}
use Rattle.ratio.proofs.Slots.{spread_again, pair_from}
use native.Mathlib.Nat.{mul-le-mul_right}
use native.Mathlib.Omega.{arith}
use Rattle.ratio.proofs.spread_two.Goals as goal

pub loop-i-preserved : goal.loop-i-preserved
loop-i-preserved c =
    let l = c.loop-i in
    let row = mul-le-mul_right c.args.bins.slot c.loop-i-test.true in
    let end : 2 * (l.i * c.args.bins.slot + c.args.t + 1) + 1 < length l.block = omega arith in
    let read : (xs : List Float) (k : ℕ) (z : Pair) → xs ≡ drop (2 * k) c.args.spectra.now → z ≡ pair_at xs l.i → z ≡ pair_at c.args.spectra.now (k + l.i) =
    λ xs k z e h. h ∙ ap (λ ys. pair_at ys l.i) e ∙ pair_from _ k l.i in (
      l.invariant.0,
      l.invariant.1,
      spread_again _ _ _ _ _ _ _ _ _ _ _ _ _ c.requires.inside refl end c.put_pair.ensures c.put_pair-in-loop-i.ensures
          (read _ _ _ l.invariant.0 c.pair_at-x.ensures) (read _ _ _ l.invariant.1 c.pair_at-y.ensures) l.invariant.2,
    )
