-- What `root_bits` makes of a lifted operand, its root and its remainder: the bits of the nearest root. And how `root_of_units` writes its
-- operand as a number times a power of 4.
-- Assumes nothing.
use mathlib.Core.Path.{◌≡◌, refl, sym, ap, ◌∙◌, subst}
use mathlib.Core.Bool.{Bool, true, false, not}
use Prim.Native.Nat.{ℕ, zero, suc, ◌+◌, ◌-◌, ◌*◌, ◌/◌, ◌%◌, ◌^◌, ◌≤◌, ◌<◌}
use native.Mathlib.Nat.{lt_of_not-le, zero-add, mul-one, mul-le-mul}
use native.Mathlib.Omega.{arith}
use lib.Dec.{T, ltb, ltb→lt, nltb→le}
use lib.Ieee.{binary64, of_bits}
use Rattle.ieee.specs.Numbers.{shift}
use Rattle.root.specs.Root.{more, root_units}
use Rattle.root.specs.Inner.{Lifted, Rooted, RootBits}
use Rattle.ieee.specs.Patterns.{encode}
use Rattle.root.specs.RootUnits.{root_is}

-- s has 53 digits, and so has s + 1 where it is the nearest
pub below_top : (x s r : ℕ) → s * s + r ≡ x * 4503599627370496 → x ≤ 18014398509481982 → s < 9007199254740992
below_top x s r e h =
    lt_of_not-le (λ (g : 9007199254740992 ≤ s).
    let k : 9007199254740992 * 9007199254740992 ≤ s * s = mul-le-mul g g in
    omega arith)

below_next : (x s r : ℕ) → s * s + r ≡ x * 4503599627370496 → x ≤ 18014398509481982 → s < r → s + 1 < 9007199254740992
below_next x s r e h l =
    let w : s < 9007199254740991 = lt_of_not-le (λ (g : 9007199254740991 ≤ s).
    let k : 9007199254740991 * 9007199254740991 ≤ s * s = mul-le-mul g g in
    omega arith) in
    omega arith

-- q has 53 digits
pub record Long (q : ℕ) : Type 0 where
  pub low : 4503599627370496 ≤ q
  pub high : q < 9007199254740992

pub nearest_in : (x s r : ℕ) (b : Bool) → Rooted x s r → x ≤ 18014398509481982 → (T b → s < r) → Long (more b s)
nearest_in x s r true p h y = let w = p.low in record { low = omega arith; high = below_next x s r p.whole h (y tt) }
nearest_in x s r false p h y = record { low = p.low; high = below_top x s r p.whole h }

exponents : (h i : ℕ) → i ≤ 26 → 537 ≤ h → i + i + 52 + (h - i - 26 + (h - i - 26)) ≡ h + h
exponents h i a b = omega arith

operand : (a h x i : ℕ) → Lifted a x i → 537 ≤ h → x * 4503599627370496 * 2 ^ (h - i - 26 + (h - i - 26)) ≡ a * 2 ^ (h + h)
operand a h x i l b =
    let g = h - i - 26 in
    ap (λ (z : ℕ). z * 4503599627370496 * 2 ^ (g + g)) l.whole
    ∙ ap (λ (z : ℕ). z * 2 ^ (g + g)) (shift a (i + i) 52)
    ∙ shift a (i + i + 52) (g + g)
    ∙ ap (λ (z : ℕ). a * 2 ^ z) (exponents h i l.few b)

pub finished : (a h x i s r : ℕ) → Lifted a x i → Rooted x s r → 537 ≤ h → h ≤ 1560
    → RootBits (a * 2 ^ (h + h)) ((h - i - 26) * 4503599627370496 + more (ltb s r) s)
finished a h x i s r l p lo hi =
    let g = h - i - 26 in
    let q = more (ltb s r) s in
    let N = x * 4503599627370496 in
    let near = nearest_in x s r (ltb s r) p l.high (ltb→lt s r) in
    let L : 2 ^ 104 ≤ N = big x l.low in
    let H : N < 2 ^ 106 = small x l.high in
    record {
      is =
          ap (of_bits binary64) (sym (zero-add (g * 4503599627370496 + q)))
          ∙ encode binary64 false g q near.low near.high (field h i hi)
          ∙ sym (root_is N g s r L H p.whole p.rem)
          ∙ ap root_units (operand a h x i l lo);
      low = bits h i q hi near.high;
    }
  where
    big : (x : ℕ) → 4503599627370496 ≤ x → 20282409603651670423947251286016 ≤ x * 4503599627370496
    big x h = omega arith

    small : (x : ℕ) → x ≤ 18014398509481982 → x * 4503599627370496 < 81129638414606681695789005144064
    small x h = omega arith

    field : (h i : ℕ) → h ≤ 1560 → suc (h - i - 26) < 2047
    field h i k = omega arith

    bits : (h i q : ℕ) → h ≤ 1560 → q < 9007199254740992 → (h - i - 26) * 4503599627370496 + q < 9218868437227405312
    bits h i q k l = omega arith

-- as the code has it, with no branch
pub finished_by : (a h x i s r : ℕ) → Lifted a x i → Rooted x s r → 537 ≤ h → h ≤ 1560
    → RootBits (a * 2 ^ (h + h)) ((h - i - 26) * 4503599627370496 + (s + (9223372036854775808 + r - s - 1) / 9223372036854775808))
finished_by a h x i s r l p lo hi =
    subst (λ (q : ℕ). RootBits (a * 2 ^ (h + h)) ((h - i - 26) * 4503599627370496 + q)) (go (ltb s r) (ltb→lt s r) (nltb→le s r))
    (finished a h x i s r l p lo hi)
  where
    S : s < 9007199254740992
    S = below_top x s r p.whole l.high

    R : r ≤ 2 * s
    R = p.rem

    go : (b : Bool) → (T b → s < r) → (T (not b) → r ≤ s) → more b s ≡ s + (9223372036854775808 + r - s - 1) / 9223372036854775808
    go true y z = let k = y tt in let u = S in let v = R in omega arith
    go false y z = let k = z tt in let u = S in let v = R in omega arith

-- m * 2 ^ k units of 2 ^ -1074, as a number times a power of 4
pub even_half : (m k : ℕ) → k % 2 ≡ 0 → m * 2 ^ (537 + k / 2 + (537 + k / 2)) ≡ m * 2 ^ k * 2 ^ 1074
even_half m k e = ap (λ (z : ℕ). m * 2 ^ z) (sum k e) ∙ sym (shift m k 1074)
  where
    sum : (k : ℕ) → k % 2 ≡ 0 → 537 + k / 2 + (537 + k / 2) ≡ k + 1074
    sum k e = omega arith

pub odd_half : (m k : ℕ) → k % 2 ≡ 1 → m * 2 * 2 ^ (537 + k / 2 + (537 + k / 2)) ≡ m * 2 ^ k * 2 ^ 1074
odd_half m k e = shift m 1 (537 + k / 2 + (537 + k / 2)) ∙ ap (λ (z : ℕ). m * 2 ^ z) (sum k e) ∙ sym (shift m k 1074)
  where
    sum : (k : ℕ) → k % 2 ≡ 1 → 1 + (537 + k / 2 + (537 + k / 2)) ≡ k + 1074
    sum k e = omega arith

-- both at once: m * (k % 2 + 1)
abbrev Half : ℕ → ℕ → ℕ → Type 0
Half m k a =
    (0 < m → 0 < a) × (m < 9007199254740992 → a ≤ 18014398509481982) × (a * 2 ^ (537 + k / 2 + (537 + k / 2)) ≡ m * 2 ^ k * 2 ^ 1074)

pub half : (m k : ℕ) → Half m k (m * (k % 2 + 1))
half m k = go (k % 2) refl
  where
    go : (r : ℕ) → k % 2 ≡ r → Half m k (m * (r + 1))
    go zero e = (λ h. omega arith, λ h. omega arith, ap (λ (x : ℕ). x * 2 ^ (537 + k / 2 + (537 + k / 2))) (mul-one m) ∙ even_half m k e)
    go (suc zero) e = (λ h. omega arith, λ h. omega arith, odd_half m k e)
    go (suc (suc r)) e = absurd (no k r e)
      where
        no : (k r : ℕ) → k % 2 ≡ suc (suc r) → ⊥
        no k r e = omega arith
