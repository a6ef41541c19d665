-- The law of the root that a reader wants: the answer is an f64, and strictly nearer to the root of x than any other f64. x is an f64 above
-- zero, a units of the smallest one, 2 ^ -1074, so its root is that of a * 2 ^ 1074 units; y is another f64, v units. For the answer's units r,
-- the point halfway between y and the answer, (v + r) / 2, lies on y's side of the root: below it where v is less than r, above it where v is
-- greater. Squared, and times 4, that is said of whole numbers. A y below zero is farther off than 0 is. And the root grows with x.
-- Assumes nothing.
use Rattle.std.specs.Prelude.{◌≡◌, false, ℕ, ◌+◌, ◌*◌, ◌^◌, ◌≤◌, ◌<◌, T, Float}
use Rattle.std.proofs.Common.{sym, ap, ◌∙◌, subst, lt_of_le_of_lt, mul-le-mul_right, pow_pos}
use Rattle.std.specs.Float.{binary64}
use Rattle.std.specs.Float.Ieee.{fits, le}
use Rattle.std.specs.Float.Ieee.Exact.{HasValue}
use Rattle.std.specs.Float.Ieee.Order.{le_of_values}
use Rattle.ieee.specs.Numbers.{shift}
use Rattle.ieee.specs.Values.{digits, fits_below}
use Rattle.root.specs.Root.{root_of}
use Rattle.root.specs.RootShift.{units_long, root_value_lem, root_fits}
use Rattle.root.specs.RootBest.{root_value, Nearer, nearer, root_value_mono}

pub record NearestRoot (x : Float) (a v : ℕ) : Type 0 where
  -- the answer is an f64 (`root_fits` of RootShift: so is the root of every f64, infinities and NaN too)
  pub held : T (fits binary64 (root_of x))
  -- it is so many units
  pub root : ℕ
  pub is : HasValue (root_of x) false root (2 ^ 1074)
  pub below : v < root → (v + root) * (v + root) < 4 * (a * 2 ^ 1074)
  pub above : root < v → 4 * (a * 2 ^ 1074) < (v + root) * (v + root)

pub root_nearest : (x y : Float) (a v : ℕ) → T (fits binary64 x) → T (fits binary64 y) → 0 < a → HasValue x false a (2 ^ 1074)
    → HasValue y false v (2 ^ 1074) → NearestRoot x a v
root_nearest x y a v s t p k h =
    let c = digits binary64 x false a s k in
    let d = digits binary64 y false v t h in
    let e : c.m * 2 ^ (c.j + 1074) ≡ a * 2 ^ 1074 = sym (shift c.m c.j 1074) ∙ ap (λ (z : ℕ). z * 2 ^ 1074) c.is in
    let n : Nearer (a * 2 ^ 1074) (root_value (a * 2 ^ 1074)) v =
    subst (λ (z : ℕ). Nearer (a * 2 ^ 1074) (root_value (a * 2 ^ 1074)) z) d.is
    (nearer (a * 2 ^ 1074) (units_long a p) c.m (c.j + 1074) c.small e d.m d.j d.small) in
    record {
      held = root_fits x s;
      root = root_value (a * 2 ^ 1074);
      is = root_value_lem x a k (fits_below binary64 x false a s k);
      below = n.less;
      above = n.greater;
    }

pub root_grows : (x y : Float) (a b : ℕ) → T (fits binary64 y) → 0 < a → a ≤ b → HasValue x false a (2 ^ 1074) → HasValue y false b (2 ^ 1074)
    → T (le (root_of x) (root_of y))
root_grows x y a b t p l h k =
    let u : b < 2 ^ 2098 = fits_below binary64 y false b t k in
    le_of_values (root_of x) (root_of y) (root_value (a * 2 ^ 1074)) (2 ^ 1074) (root_value (b * 2 ^ 1074)) (2 ^ 1074) (pow_pos 1074) (pow_pos 1074)
    (root_value_lem x a h (lt_of_le_of_lt l u))
    (root_value_lem y b k u)
    (mul-le-mul_right (2 ^ 1074) (root_value_mono (a * 2 ^ 1074) (b * 2 ^ 1074) (units_long a p) (mul-le-mul_right (2 ^ 1074) l)))
