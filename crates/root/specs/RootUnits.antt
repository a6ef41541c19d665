-- `root_units` by a root and its remainder. For n = N * 4 ^ g, N of 105 or 106 digits, N = s * s + r with r at most 2 * s, it is s * 2 ^ g
-- units, or (s + 1) * 2 ^ g where r is above s. And `root_of` by the size of its argument, and its sign.
-- Assumes nothing.
use Rattle.std.specs.Prelude.{◌≡◌, refl, Bool, true, false, not, ℕ, zero, suc, ◌+◌, ◌-◌, ◌*◌, ◌/◌, ◌^◌, ◌≤◌, ◌<◌, ℤ, T, ltb, Float}
use Rattle.std.proofs.Common.{sym, ap, ◌∙◌, subst, le_trans, le_of_eq, mul_assoc, mul-add, add-mul, zero-mul, mul-le-mul_right, mul-div_cancel, arith}
use Rattle.std.proofs.Common.{ltb→lt, lt→ltb, pow-add, pow_pos, shl_lt}
use Rattle.std.specs.Float.{nan, inf, fin, binary64}
use Rattle.std.specs.Float.Ieee.{up, down, size, units}
use Rattle.std.specs.Float.Ieee.Digits.{size-le}
use Rattle.std.specs.Float.Ieee.Fits.{down_pos}
use Rattle.std.specs.Float.Ieee.Exact.{HasValue}
use Rattle.ieee.specs.Numbers.{same_bool, ltb_scale, no_product, four_squares, size_gt}
use Rattle.ieee.specs.Signs.{negative, units_sign}
use Rattle.root.specs.Root.{more, whole_root, root_kept, root_drop, root_units, root_of}
use Rattle.root.specs.WholeRoot.{whole_root_is}

half_digits : (g z : ℕ) → 104 + (g + g) < z → z ≤ 106 + (g + g) → (z + 1) / 2 - 53 ≡ g
half_digits g z a b = omega arith

-- (2 * s + 1) squared, written out
pub halfway : (s : ℕ) → (2 * s + 1) * (2 * s + 1) ≡ 4 * (s * s) + 4 * s + 1
halfway s = rw (add-mul, mul-add) (let e = four_squares s in omega arith)

-- the point halfway, squared and times 4, lies below 4 * N exactly where r is above s
test_is : (N P s r : ℕ) → 0 < P → s * s + r ≡ N → ltb ((2 * s + 1) * (2 * s + 1) * P) (4 * (N * P)) ≡ ltb s r
test_is N P s r p e =
    ap (λ (x : ℕ). ltb ((2 * s + 1) * (2 * s + 1) * P) x) (sym (mul_assoc 4 N P))
    ∙ ltb_scale ((2 * s + 1) * (2 * s + 1)) (4 * N) P p
    ∙ same_bool (ltb ((2 * s + 1) * (2 * s + 1)) (4 * N)) (ltb s r) (λ t. lt→ltb s r (down_to (ltb→lt _ _ t))) (λ t. lt→ltb _ _ (up_to (ltb→lt s r t)))
  where
    down_to : (2 * s + 1) * (2 * s + 1) < 4 * N → s < r
    down_to h = let q = halfway s in omega arith

    up_to : s < r → (2 * s + 1) * (2 * s + 1) < 4 * N
    up_to h = let q = halfway s in omega arith

pub root_is : (N g s r : ℕ) → 2 ^ 104 ≤ N → N < 2 ^ 106 → s * s + r ≡ N → r ≤ 2 * s → root_units (N * 2 ^ (g + g)) ≡ units binary64 false (more (ltb s r) s) g
unfolding root_units
root_is N g s r lo hi e h =
    let P = 2 ^ (g + g) in
    let n = N * P in
    let k : (size n + 1) / 2 - 53 ≡ g =
    half_digits g (size n) (size_gt n (104 + (g + g)) (le_trans (le_of_eq (pow-add 2 104 (g + g))) (mul-le-mul_right P lo)))
    (size-le n (106 + (g + g)) (shl_lt 106 (g + g) hi)) in
    let w : whole_root (n / P) ≡ s = ap whole_root (mul-div_cancel N (pow_pos (g + g))) ∙ whole_root_is N s r e h in
    ap (λ (k : ℕ). let w = whole_root (n / 2 ^ (k + k)) in units binary64 false (more (ltb ((2 * w + 1) * (2 * w + 1) * 2 ^ (k + k)) (4 * n)) w) k) k
    ∙ ap (λ (w : ℕ). units binary64 false (more (ltb ((2 * w + 1) * (2 * w + 1) * P) (4 * n)) w) g) w
    ∙ ap (λ (b : Bool). units binary64 false (more b s) g) (test_is N P s r (pow_pos (g + g)) e)

-- ---- `root_of`
-- a zero is no units
no_units : (a : ℕ) (e : ℤ) → 0 < a → 0 * up e * 2 ^ 1074 ≡ a * down e → ⊥
no_units a e p h = no_product a (down e) p (down_pos e) (sym h ∙ ap (λ (z : ℕ). z * 2 ^ 1074) (zero-mul (up e)) ∙ zero-mul (2 ^ 1074))

pub root_of_value : (x : Float) (a : ℕ) → HasValue x false a (2 ^ 1074) → 0 < a → root_of x ≡ root_units (a * 2 ^ 1074)
unfolding root_of
root_of_value nan a h p = absurd h
root_of_value (inf t) a h p = absurd h
root_of_value (fin t zero e) a h p = absurd (no_units a e p h.1)
root_of_value (fin true (suc m) e) a h p = absurd (subst T h.0 tt)
root_of_value (fin false (suc m) e) a h p = ap (λ (z : ℕ). root_units (z * 2 ^ 1074)) (ap (λ (z : ℕ). z / down e) h.1 ∙ mul-div_cancel a (down_pos e))

pub root_of_negative : (x : Float) (a : ℕ) → HasValue x true a (2 ^ 1074) → 0 < a → root_of x ≡ nan
unfolding root_of
root_of_negative nan a h p = refl
root_of_negative (inf t) a h p = absurd h
root_of_negative (fin t zero e) a h p = absurd (no_units a e p h.1)
root_of_negative (fin true (suc m) e) a h p = refl
root_of_negative (fin false (suc m) e) a h p = absurd (subst (λ (b : Bool). T (not b)) h.0 tt)

-- ---- the sign
root_units_sign : (n : ℕ) → negative (root_units n) ≡ false
unfolding root_units
root_units_sign n = units_sign binary64 false (root_kept n) (root_drop n)

-- the only root with a minus sign is that of -0.0
pub root_sign : (x : Float) → negative x ≡ false → negative (root_of x) ≡ false
unfolding root_of
root_sign nan p = refl
root_sign (inf true) p = refl
root_sign (inf false) p = refl
root_sign (fin s zero e) p = p
root_sign (fin true (suc m) e) p = refl
root_sign (fin false (suc m) e) p = root_units_sign (suc m * up e * 2 ^ 1074 / down e * 2 ^ 1074)
