-- The arithmetic of one step of the root by halves: what keeps each number within a word, and that the step gives a root and its remainder again.
-- Assumes nothing.
use mathlib.Core.Path.{◌≡◌, sym, ap, ◌∙◌, subst}
use Prim.Native.Nat.{ℕ, zero, suc, ◌+◌, ◌-◌, ◌*◌, ◌/◌, ◌%◌, ◌≤◌, ◌<◌}
use native.Mathlib.Nat.{le_trans, le_of_eq, le_of_suc-le-suc, mul_comm, mul_assoc, mul_left_comm, mul-mul-mul_comm, mul-add, add-mul, suc-mul}
use native.Mathlib.Nat.{mul-le-mul, mul-le-mul_right, le-mul_of_pos_right, mod-lt, div-lt_iff_lt-mul}
use native.Mathlib.Omega.{arith}
use Rattle.ieee.specs.Numbers.{le_multiple}
use Rattle.root.specs.Inner.{Ready, Refined}

-- the bounds that keep every step of the code within a word
pub record Bounds (s r b q u : ℕ) : Type 0 where
  pub rb : r * b ≤ 2 * (s * b)
  pub bb : b * b ≤ 2 * (s * b)
  pub sb : b ≤ s * b
  pub qb : q ≤ b
  pub qq : q * q ≤ b * b
  pub ub : u * b + b ≤ 2 * (s * b)
  pub sp : 0 < s
  pub ss : s ≤ s * b

pos_of : (s b : ℕ) → b ≤ 2 * s → 0 < b → 0 < s
pos_of s b h k = omega arith

twice : (s b : ℕ) → 2 * s * b ≡ 2 * (s * b)
twice s b = mul_assoc 2 s b

pub bounds : (s r b hi lo : ℕ) → Ready s r b hi lo → Bounds s r b ((r * b + hi) / (2 * s)) ((r * b + hi) % (2 * s))
bounds s r b hi lo h =
    let P : 0 < s = pos_of s b h.base h.some in
    let D : 0 < 2 * s = omega arith in
    let q = (r * b + hi) / (2 * s) in
    let u = (r * b + hi) % (2 * s) in
    let rb : r * b ≤ 2 * (s * b) = le_trans (mul-le-mul_right b h.rem) (le_of_eq (twice s b)) in
    let bb : b * b ≤ 2 * (s * b) = le_trans (mul-le-mul_right b h.base) (le_of_eq (twice s b)) in
    let sb : b ≤ s * b = le_multiple s b P in
    let lt : r * b + hi < suc b * (2 * s) = rw (suc-mul b (2 * s), mul_comm b (2 * s), mul_assoc 2 s b) (omega arith) in
    let qb : q ≤ b = le_of_suc-le-suc ((div-lt_iff_lt-mul D).1 lt) in
    record {
      rb = rb;
      bb = bb;
      sb = sb;
      qb = qb;
      qq = mul-le-mul qb qb;
      ub = le_trans (le_of_eq (sym (suc-mul u b))) (le_trans (mul-le-mul_right b (mod-lt (r * b + hi) D)) (le_of_eq (twice s b)));
      sp = P;
      ss = le-mul_of_pos_right s h.some;
    }

pub root_pos : (m q : ℕ) → m < q * q → 0 < q
root_pos m zero k = omega arith
root_pos m (suc q) k = omega arith

-- (s * b + q) squared, and the operand, each written out; t is 2 * s * q + u
square : (s b q : ℕ) → (s * b + q) * (s * b + q) ≡ s * s * (b * b) + 2 * (s * b * q) + q * q
square s b q =
    rw (add-mul, mul-add, mul-add)
    (let e : q * (s * b) ≡ s * b * q = mul_comm q (s * b) in
    let f : s * b * (s * b) ≡ s * s * (b * b) = mul-mul-mul_comm s b s b in
    omega arith)

operand : (s r b hi lo q u : ℕ) → q * (2 * s) + u ≡ r * b + hi
    → (s * s + r) * (b * b) + (hi * b + lo) ≡ s * s * (b * b) + 2 * (s * b * q) + u * b + lo
operand s r b hi lo q u e =
    let f : q * (2 * s) * b + u * b ≡ r * b * b + hi * b = sym (add-mul (q * (2 * s)) u b) ∙ ap (λ (z : ℕ). z * b) e ∙ add-mul (r * b) hi b in
    let g : q * (2 * s) * b ≡ 2 * (s * b * q) = simp (mul_assoc, mul_comm, mul_left_comm) in
    let k : r * b * b ≡ r * (b * b) = mul_assoc r b b in
    let l : (s * s + r) * (b * b) ≡ s * s * (b * b) + r * (b * b) = add-mul (s * s) r (b * b) in
    omega arith

pred_square : (e : ℕ) → 0 < e → (e - 1) * (e - 1) + 2 * e ≡ e * e + 1
pred_square e h =
    let d = e - 1 in
    let p : e ≡ d + 1 = omega arith in
    subst (λ (z : ℕ). d * d + 2 * z ≡ z * z + 1) (sym p) (rw (add-mul, mul-add, mul-add) (omega arith))

pub refined : (s r b hi lo : ℕ) (h : Ready s r b hi lo) (q u : ℕ) → q * (2 * s) + u ≡ r * b + hi → Bounds s r b q u → q * q ≤ u * b + lo
    → Refined s r b hi lo (s * b + q) (u * b + lo - q * q)
refined s r b hi lo h q u e f g =
    let sq = square s b q in
    let op = operand s r b hi lo q u e in
    record { whole = omega arith; rem = omega arith; low = omega arith; high = omega arith }

pub refined_less : (s r b hi lo : ℕ) (h : Ready s r b hi lo) (q u : ℕ) → q * (2 * s) + u ≡ r * b + hi → Bounds s r b q u → u * b + lo < q * q
    → Refined s r b hi lo (s * b + q - 1) (u * b + lo + (2 * (s * b + q) - 1) - q * q)
refined_less s r b hi lo h q u e f g =
    let sq = square s b q in
    let op = operand s r b hi lo q u e in
    let P : 0 < s * b + q = omega arith in
    let pr = pred_square (s * b + q) P in
    let Q : 0 < q = root_pos _ q g in
    record { whole = omega arith; rem = omega arith; low = omega arith; high = omega arith }
