-- Narrowing by values, and under a gain: a level keeps its units, as long as nothing overflows.
-- Assumes nothing.
use Rattle.std.specs.Prelude.{◌≡◌, refl, Bool, false, ℕ, ◌+◌, ◌-◌, ◌*◌, ◌^◌, ◌<◌, ◌≤◌, pos, T, Float}
use Rattle.std.proofs.Common.{sym, ap, ◌∙◌, subst, inl, inr, le_trans, le_of_eq, one-mul, eq-zero-or-pos, arith, lit<, pow_pos}
use Rattle.std.proofs.Math.Pow.{pow-lt}
use Rattle.std.specs.Float.{nan, inf, fin, binary32}
use Rattle.std.specs.Float.Ieee.{up, down, round}
use Rattle.std.specs.Float.Ieee.Fits.{down_pos}
use Rattle.std.specs.Float.Ieee.Exact.{HasValue}
use Rattle.std.specs.Float.Ieee.Order.{round_mono}
use Rattle.std.specs.Float.Ieee.Positive.{positive_of_value, values_of_le}
use Rattle.std.specs.Float.Ieee.Scale.{round_same}
use Rattle.ieee.specs.Narrow.{narrow_of}
use Rattle.ieee.specs.Signs.{negative, round_sign}
use Rattle.ieee.specs.Values.{sign_is}
use Rattle.ieee.specs.Zeros.{round_zero}
use Rattle.ieee.specs.Levels.{Level, Scaled, roomy}
use Rattle.ieee.specs.Gain.{exact, rounded}

pub narrow_of_value : (x : Float) (s : Bool) (a c : ℕ) → 0 < c → HasValue x s a c → narrow_of x ≡ round binary32 s a c
unfolding narrow_of
narrow_of_value nan s a c C h = absurd h
narrow_of_value (inf t) s a c C h = absurd h
narrow_of_value (fin t m e) s a c C h =
    ap (λ (b : Bool). round binary32 b (m * up e) (down e)) h.0 ∙ round_same binary32 s (m * up e) (down e) a c (down_pos e) C h.1

-- a level keeps its units through narrowing
pub narrow_scaled : (top k : ℕ) (l : Level) (x y : Float) → k ≤ top → T (roomy binary32 top l) → Scaled l k x y → Scaled l k (narrow_of x) (narrow_of y)
narrow_scaled top k l x y K R h =
    let is : (z : Float) (n : ℕ) → HasValue z h.sign n (2 ^ l.unit) → narrow_of z ≡ round binary32 h.sign n (2 ^ l.unit) =
    λ z n. narrow_of_value z h.sign n (2 ^ l.unit) (pow_pos l.unit) in
    rw (is x h.count h.here, is y (h.count * 2 ^ (l.power * k)) h.there)
    (rounded binary32 top k l h.sign h.count K R h.few)

-- 2 ^ -u is a value of f32
least : (u : ℕ) → u ≤ 149 → HasValue (round binary32 false 1 (2 ^ u)) false 1 (2 ^ u)
least u U = exact binary32 u U false 1 1 (149 - u) (lit< tt) (pow-lt {i = 0} (let q : 0 < 128 + u = omega arith in q)) refl

-- so what is at least that is so narrowed, unless it is zero
pub narrow_low : (z : Float) (s : Bool) (a c n d u : ℕ) → u ≤ 149 → 0 < c → (0 < a → c ≤ a * 2 ^ u) → HasValue z false a c → HasValue (narrow_of z) s n d
    → 0 < n → d ≤ n * 2 ^ u
narrow_low z s a c n d u U C lo h g N =
    let e : narrow_of z ≡ round binary32 false a c = narrow_of_value z false a c C h in
    let r = round binary32 false a c in
    let S : s ≡ false = sym (sign_is (narrow_of z) s n d g) ∙ ap negative e ∙ round_sign binary32 false a c in
    let v : HasValue r false n d = subst (λ (x : Float). HasValue x false n d) e (subst (λ (b : Bool). HasValue (narrow_of z) b n d) S g) in
    elim (eq-zero-or-pos a) [
      | inl A ↦
          let o : r ≡ fin false 0 (pos 0) = ap (λ (i : ℕ). round binary32 false i c) A ∙ round_zero binary32 false c C in
          absurd (positive_of_value (fin false 0 (pos 0)) n d (subst (λ (x : Float). HasValue x false n d) o v) N)
      | inr A ↦
          let m = round binary32 false 1 (2 ^ u) in
          le_trans (le_of_eq (sym (one-mul d)))
          (values_of_le m r 1 (2 ^ u) n d (positive_of_value m 1 (2 ^ u) (least u U) (lit< tt)) (positive_of_value r n d v N) (least u U) v
          (round_mono binary32 1 (2 ^ u) a c (pow_pos u) C (le_trans (le_of_eq (one-mul c)) (lo A))))
    ]
