-- What `narrow_root` makes of a guess y. The squares of 8 * y - 4 and of 8 * y + 4 enclose a, with 4 to spare, so the nearest root of
-- a * 2 ^ 52, of 53 digits, lies between 8 * y - 4 and 8 * y + 4 times 2 ^ 26 (`enclosed`). These are the points halfway from y * 2 ^ 29 to
-- the multiples of 2 ^ 29 beside it, so the root narrows to the digits y.
-- Assumes nothing.
use mathlib.Core.Path.{◌≡◌, sym, ap, ◌∙◌, subst}
use mathlib.Core.Bool.{Bool, true, false, not}
use Prim.Native.Nat.{ℕ, zero, suc, ◌+◌, ◌-◌, ◌*◌, ◌/◌, ◌%◌, ◌^◌, ◌≤◌, ◌<◌}
use native.Mathlib.Nat.{lt_of_le_of_lt, lt_of_not-le, zero-add, mul-one, mul-mul-mul_comm, mul-add, add-mul, mul-le-mul}
use native.Mathlib.Omega.{arith}
use lib.Dec.{T, ltb, ltb→lt, nltb→le, lit≤}
use lib.Ieee.{binary32, binary64, of_bits}
use lib.Ieee.Nearest.{closest}
use Rattle.ieee.specs.Numbers.{le_of_next}
use Rattle.root.specs.Root.{more, whole_root, root_units, root_of}
use Rattle.ieee.specs.Narrow.{narrow_of}
use Rattle.ieee.specs.Inner.{Narrowed}
use Rattle.root.specs.Inner.{Rooted, Lifted, Near, NarrowRoot}
use Rattle.root.specs.WholeRoot.{whole_root_lem, square_back}
use Rattle.root.proofs.Finished.{Long, nearest_in, finished, half}
use Rattle.root.proofs.Cases.{root_mid}
use Rattle.ieee.specs.Narrowing.{narrow_normal, closest_29}

-- ---- a root with its remainder, and a number h below 2 ^ 54
next_square : (s : ℕ) → (s + 1) * (s + 1) ≡ s * s + 2 * s + 1
next_square s = rw (add-mul, mul-add) (omega arith)

-- the nearest root is below h where the square of h is above n, with 2 ^ 54 to spare
below : (h n s r : ℕ) (b : Bool) → (T b → s < r) → s * s + r ≡ n → n + 18014398509481984 ≤ h * h → h < 18014398509481984 → more b s < h
below h n s r b y e g l = go b y
  where
    S : s < h
    S = square_back s h (omega arith)

    go : (b : Bool) → (T b → s < r) → more b s < h
    go true y =
        lt_of_not-le (λ (z : h ≤ s + 1).
        let p : h * h ≤ (s + 1) * (s + 1) = mul-le-mul z z in
        let q = next_square s in
        let u = y tt in
        let v = S in
        omega arith)
    go false y = S

-- and above h where the square of h is below n
above : (h n s r : ℕ) (b : Bool) → (T (not b) → r ≤ s) → s * s + r ≡ n → r ≤ 2 * s → h * h + 18014398509481984 ≤ n → h < 18014398509481984 → h < more b s
above h n s r true y e k g l = square_back h (s + 1) (let q = next_square s in omega arith)
above h n s r false y e k g l =
    lt_of_not-le (λ (z : s ≤ h).
    let p : s * s ≤ h * h = mul-le-mul z z in
    let u = y tt in
    omega arith)

-- ---- the guess
enclosed : (a y s r : ℕ) → Rooted a s r → y < 16777216 → Near a y
    → ((8 * y - 4) * 67108864 < more (ltb s r) s) × (more (ltb s r) s < (8 * y + 4) * 67108864)
enclosed a y s r p Y n = (
  above l N s r (ltb s r) (nltb→le s r) p.whole p.rem (let q = square (8 * y - 4) in let k = n.low in omega arith) (omega arith),
  below h N s r (ltb s r) (ltb→lt s r) p.whole (let q = square (8 * y + 4) in let k = n.high in omega arith) (omega arith),
)
  where
    N : ℕ
    N = a * 4503599627370496

    l : ℕ
    l = (8 * y - 4) * 67108864

    h : ℕ
    h = (8 * y + 4) * 67108864

    square : (x : ℕ) → x * 67108864 * (x * 67108864) ≡ x * x * 4503599627370496
    square x = mul-mul-mul_comm x 67108864 x 67108864

certified : (a y s r : ℕ) → Rooted a s r → y < 16777216 → Near a y → closest (more (ltb s r) s) 536870912 ≡ y
certified a y s r p Y n = let e = enclosed a y s r p Y n in sym (closest_29 (more (ltb s r) s)) ∙ cut (more (ltb s r) s) y e.0 e.1
  where
    cut : (q y : ℕ) → (8 * y - 4) * 67108864 < q → q < (8 * y + 4) * 67108864 → (q + 268435455 + q / 536870912 % 2) / 536870912 ≡ y
    cut q y a b = omega arith

-- ---- the bits
-- every a has such a root and remainder
rooted : (a : ℕ) → 4503599627370496 ≤ a → (r : ℕ) × Rooted a (whole_root (a * 4503599627370496)) r
rooted a h = (n - s * s, record { whole = back; rem = rest; low = long })
  where
    n : ℕ
    n = a * 4503599627370496

    s : ℕ
    s = whole_root n

    lo : s * s ≤ n
    lo = (whole_root_lem n).low

    hi : n < s * s + 2 * s + 1
    hi = subst (λ (x : ℕ). n < x) (next_square s) (whole_root_lem n).high

    back : s * s + (n - s * s) ≡ n
    back = let l = lo in omega arith

    rest : n - s * s ≤ 2 * s
    rest = let l = lo in let h = hi in omega arith

    long : 4503599627370496 ≤ s
    long = le_of_next (square_back 4503599627370496 (s + 1) (lt_of_le_of_lt (big a h) (whole_root_lem n).high))
      where
        big : (a : ℕ) → 4503599627370496 ≤ a → 4503599627370496 * 4503599627370496 ≤ a * 4503599627370496
        big a h = omega arith

-- the operand of the root, as `guessed_bits` has it of the bits t
abbrev pub operand : ℕ → ℕ
operand t = (t % 4503599627370496 + 4503599627370496) * (t / 4503599627370496 % 2 + 1)

pub operand_in : (t : ℕ) → (4503599627370496 ≤ operand t) × (operand t ≤ 18014398509481982)
operand_in t = go (t / 4503599627370496 % 2) (bit (t / 4503599627370496))
  where
    bit : (k : ℕ) → k % 2 < 2
    bit k = omega arith

    go : (r : ℕ) → r < 2 → (let m = t % 4503599627370496 + 4503599627370496 in (4503599627370496 ≤ m * (r + 1)) × (m * (r + 1) ≤ 18014398509481982))
    go zero h = (omega arith, omega arith)
    go (suc zero) h = (omega arith, omega arith)
    go (suc (suc r)) h = absurd (no r h)
      where
        no : (r : ℕ) → suc (suc r) < 2 → ⊥
        no r h = omega arith

-- the f64 with the exponent g and the 53 digits q narrows to the f32 with the digits y
narrowed : (g q y : ℕ) → Long q → 896 ≤ g → g ≤ 1149 → closest q 536870912 ≡ y → Narrowed (g * 4503599627370496 + q) ((g - 896) * 8388608 + y)
narrowed g q y l lo hi e =
    let c = g * 4503599627370496 + q in
    let E : c / 4503599627370496 ≡ g + 1 = let u = l.low in let v = l.high in omega arith in
    let M : c % 4503599627370496 + 4503599627370496 ≡ q = let u = l.low in let v = l.high in omega arith in
    let F : g + 1 - 897 ≡ g - 896 = omega arith in
    subst (λ (z : ℕ). Narrowed c z)
    ((λ i. (E i - 897) * 8388608 + closest (M i) 536870912) ∙ (λ i. F i * 8388608 + e i))
    (narrow_normal c (omega arith) (omega arith))

-- the root of the pattern b; t is what b has above the pattern of 2 ^ -252
root_of_lem : (b : ℕ) → 3472275312702652416 ≤ b → b < 5760103923406864384
    → (let t = b - 3472275312702652416 in
    let h = 537 + (770 + t / 4503599627370496) / 2 in
    root_units (operand t * 2 ^ (h + h)) ≡ root_of (of_bits binary64 b))
root_of_lem b lo hi =
    let t = b - 3472275312702652416 in
    let m = t % 4503599627370496 + 4503599627370496 in
    let k = 770 + t / 4503599627370496 in
    let h = 537 + k / 2 in
    ap (λ (x : ℕ). root_units (m * (x + 1) * 2 ^ (h + h))) (even (t / 4503599627370496))
    ∙ ap root_units (half m k).2
    ∙ (λ i. root_units ((low b lo i + 4503599627370496) * 2 ^ high b lo i * 2 ^ 1074))
    ∙ sym (root_mid b (normal b lo) (finite b hi))
  where
    even : (k : ℕ) → k % 2 ≡ (770 + k) % 2
    even k = omega arith

    low : (b : ℕ) → 3472275312702652416 ≤ b → (b - 3472275312702652416) % 4503599627370496 ≡ b % 4503599627370496
    low b h = omega arith

    high : (b : ℕ) → 3472275312702652416 ≤ b → 770 + (b - 3472275312702652416) / 4503599627370496 ≡ b / 4503599627370496 - 1
    high b h = omega arith

    normal : (b : ℕ) → 3472275312702652416 ≤ b → b / 4503599627370496 ≡ 0 → ⊥
    normal b h e = omega arith

    finite : (b : ℕ) → b < 5760103923406864384 → b < 9218868437227405312
    finite b h = omega arith

pub guessed : (b y : ℕ) → 3472275312702652416 ≤ b → b < 5760103923406864384 → y < 16777216
    → (let t = b - 3472275312702652416 in Near (operand t) y → NarrowRoot b (t / 4503599627370496 / 2 * 8388608 + y))
guessed b y lo hi Y n =
    let t = b - 3472275312702652416 in
    let k = t / 4503599627370496 in
    let K : k < 508 = omega arith in
    let h = 537 + (770 + k) / 2 in
    let g = h - 0 - 26 in
    let a = operand t in
    let A = operand_in t in
    let p = rooted a A.0 in
    let s = whole_root (a * 4503599627370496) in
    let r = p.0 in
    let q = more (ltb s r) s in
    let l : Lifted a a 0 = record { whole = sym (mul-one a); few = lit≤ tt; low = A.0; high = A.1 } in
    let f = finished a h a 0 s r l p.1 (omega arith) (omega arith) in
    let w = narrowed g q y (nearest_in a s r (ltb s r) p.1 A.1 (ltb→lt s r)) (omega arith) (omega arith) (certified a y s r p.1 Y n) in
    subst (λ (z : ℕ). NarrowRoot b (z * 8388608 + y)) (same k)
    record {
      low = w.low;
      is =
          ap (of_bits binary32) (sym (zero-add ((g - 896) * 8388608 + y)))
          ∙ w.is false
          ∙ ap (λ (x : ℕ). narrow_of (of_bits binary64 x)) (zero-add (g * 4503599627370496 + q))
          ∙ ap narrow_of (f.is ∙ root_of_lem b lo hi);
    }
  where
    same : (k : ℕ) → 537 + (770 + k) / 2 - 0 - 26 - 896 ≡ k / 2
    same k = omega arith
