-- What `window_at` keeps: the sums over the starts passed; and every start that it counts ends within the samples.
-- Assumes nothing.
use Rattle.std.proofs.Common.{◌≡◌, refl, ℕ, zero, suc, ◌+◌, ◌-◌, ◌*◌, ◌/◌, ◌<◌, ◌≤◌, Bool, leb, List, [], ◌∷◌, ◌++◌, map}
use Rattle.std.proofs.Common.{add-mul, mul-le-mul_right, add-one, arith, le-leb, le_trans}
use mathlib.Core.List.{map-append}
use Rattle.std.proofs.Math.Nat.{div-mul-le_self}
use lib.Ieee.{Float, binary64, add}
use Rattle.ieee.specs.Constants.{plus_zero}
use Rattle.ieee.specs.Sums.{total, total_append}
use Rattle.lists.specs.Lists.{up_to, select}
use Rattle.lists.specs.Select.{select_append}
use Rattle.correlation.specs.declared.Window.{Window}
use Rattle.correlation.specs.Correlation.{starts}
use Rattle.correlation.specs.Inner.{reals, imaginaries, energies, entry, gap, gaps, Windowed}

-- a symbol counted leaves room for the guard behind it
pub symbol_fits : (p ng len s : ℕ) → s < (len - ng) / p → s * p + p ≤ len - ng
symbol_fits p ng len s h =
    let next : s + 1 ≤ (len - ng) / p = omega arith in
    let l : (s + 1) * p ≤ len - ng = le_trans (mul-le-mul_right p next) (div-mul-le_self (len - ng) p) in
    omega (arith, add-mul s 1 p)

-- so do all that are counted, where the first lies within the first symbol
module _ (p ng len d : ℕ) (offset : d < p) (guard : ng ≤ len) where
  abbrev inside : ℕ → Bool
  inside a = leb (a + ng) len

  abbrev start : ℕ → ℕ
  start s = d + s * p

  passed : (n : ℕ) → n ≤ (len - ng) / p → select inside (up_to start n) ≡ up_to start n
  passed zero h = refl
  passed (suc n) h =
      let fits : n * p + p ≤ len - ng = symbol_fits p ng len n h in
      let ends : start n + ng ≤ len = omega arith in
      rw (select_append inside (up_to start n) (start n ∷ []), passed n (omega arith), le-leb (start n + ng) len ends)

  pub windowed_all : (sums : List Float) (w : Window) (n : ℕ) → n ≡ (len - ng) / p → Windowed sums ng (up_to (λ s. d + s * p) n) w
      → Windowed sums ng (starts p ng len d) w
  unfolding starts
  windowed_all sums w n e h = rw (passed ((len - ng) / p) (omega arith)) (rw e at h)

-- one start more
gaps_more : (slot : ℕ → ℕ) (sums : List Float) (ng : ℕ) (from : List ℕ) (a : ℕ) (x : Float) → x ≡ gaps slot sums ng (plus_zero binary64) from
    → add binary64 x (gap (entry slot sums) ng a) ≡ gaps slot sums ng (plus_zero binary64) (from ++ (a ∷ []))
unfolding total
gaps_more slot sums ng from a x e =
    let g : ℕ → Float = gap (entry slot sums) ng in
    rw (e, map-append g from (a ∷ []), total_append binary64 (plus_zero binary64) (map g from) (g a ∷ []))

pub windowed_more : (sums : List Float) (ng : ℕ) (f : ℕ → ℕ) (s a : ℕ) (w : Window) → a ≡ f s → Windowed sums ng (up_to f s) w
    → Windowed sums ng (up_to f (s + 1)) (record {
      correlation = record {
        re = add binary64 w.correlation.re (gap (entry reals sums) ng a);
        im = add binary64 w.correlation.im (gap (entry imaginaries sums) ng a);
      };
      energy = add binary64 w.energy (gap (entry energies sums) ng a);
    })
windowed_more sums ng f s a w e h =
    rw (add-one s, ← e)
    (record {
      re = gaps_more reals sums ng (up_to f s) a w.correlation.re h.re;
      im = gaps_more imaginaries sums ng (up_to f s) a w.correlation.im h.im;
      energy = gaps_more energies sums ng (up_to f s) a w.energy h.energy;
    })

pub windowed_none : (sums : List Float) (ng : ℕ)
    → let z = plus_zero binary64 in Windowed sums ng [] (record { correlation = record { re = z; im = z }; energy = z })
unfolding total
windowed_none sums ng = record { re = refl; im = refl; energy = refl }
