-- A shift counted from -bound: moving a bin by it, and the sum there.
-- Assumes nothing.
use Prim.Native.Nat.{ℕ, zero, suc, ◌+◌, ◌*◌, ◌-◌, ◌%◌, ◌≤◌, ◌<◌}
use mathlib.Core.List.{List, map_congr_left}
use mathlib.Core.Path.{◌≡◌, sym, ap, ◌∙◌}
use native.Mathlib.Decide.{dec_lt}
use native.Mathlib.Nat.{add-mod-mod, add-mod_right, add-mul-mod_self_right, mul-suc, suc-mul}
use native.Mathlib.Omega.{arith}
use lib.ListN.{length, get_or}
use lib.Ieee.{Float, nan, binary32, minus}
use Rattle.ieee.specs.Constants.{minus_zero}
use Rattle.ieee.specs.Sums.{total}
use Rattle.ieee.specs.Differences.{minus_above, minus_below}
use Rattle.shift.specs.Shift.{moved_bin, sum_at}
use Rattle.shift.specs.Inner.{sum_up}

-- steps of n - 1 are turns of n, less the steps
turns : (n d : ℕ) → 0 < n → suc d ≤ n → suc d * (n - 1) ≡ (n - suc d) + d * n
turns zero d s h = absurd (omega arith)
turns (suc m) d s h = let e : suc m - 1 ≡ m = omega arith in rw (e, suc-mul, mul-suc) (omega arith)

-- n is added before bound is taken off, since ℕ stops at 0
moved : (n b j bound : ℕ) → 0 < n → bound ≤ n → moved_bin n b (minus j bound) ≡ (b + (j + (n - bound))) % n
moved n b j bound s h = by (dec_lt j bound)
  where
    by : Dec (j < bound) → moved_bin n b (minus j bound) ≡ (b + (j + (n - bound))) % n
    by (no l) =
        let e : b + (j + (n - bound)) ≡ (b + (j - bound)) + n = omega arith in
        rw (minus_above j bound (omega arith), e) (sym (add-mod_right (b + (j - bound)) n))
    by (yes l) =
        let d : ℕ = bound - suc j in
        let e : b + suc d * (n - 1) ≡ (b + (j + (n - bound))) + d * n = omega (arith, turns n d s (omega arith)) in
        rw (minus_below j bound l, e) (add-mul-mod_self_right (b + (j + (n - bound))) d n)

-- the move may be brought below n first
moved_less : (n b j bound : ℕ) → 0 < n → bound ≤ n → moved_bin n b (minus j bound) ≡ (b + (j + (n - bound)) % n) % n
moved_less n b j bound s h = moved n b j bound s h ∙ sym (add-mod-mod b (j + (n - bound)) n)

pub sum_moved : (bins : List ℕ) (ratios : List Float) (j bound : ℕ) → 0 < length ratios → bound ≤ length ratios
    → sum_at (length ratios) bins ratios (minus j bound) ≡ sum_up bins ratios ((j + (length ratios - bound)) % length ratios)
unfolding sum_at sum_up
sum_moved bins ratios j bound s h =
    ap (total binary32 minus_zero) (map_congr_left {l = bins} (λ b m. ap (λ (k : ℕ). get_or ratios k nan) (moved_less (length ratios) b j bound s h)))
