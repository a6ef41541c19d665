-- Bins moved round: a move by a sum of shifts is one move after another, and a moved bin is one of the n.
-- Assumes nothing.
use Rattle.std.specs.Prelude.{ℕ, zero, suc, ◌+◌, ◌-◌, ◌*◌, ◌%◌, ◌≤◌, ◌<◌, Bool, true, false, not, cond, ◌≡◌, refl, T, ltb, ℤ, pos, negsuc, ◌+ℤ◌}
use Rattle.std.proofs.Common.{sym, ap, ◌∙◌, add_assoc, mod-lt, mul-suc, add-mul, arith, ltb→lt, nltb→le}
use Rattle.std.proofs.Math.Nat.{add-mod-mod, mod-add-mod, add-mul-mod_self_right}
use Rattle.std.proofs.Math.IntN.{sub_ℕ}
use Rattle.shift.specs.Shift.{moved_bin}

-- what is added to a bin that is moved by z
abbrev residue : ℕ → ℤ → ℕ
residue n (pos k) = k
residue n (negsuc k) = suc k * (n - 1)

moved_by : (n b : ℕ) (z : ℤ) → moved_bin n b z ≡ (b + residue n z) % n
moved_by n b (pos k) = refl
moved_by n b (negsuc k) = refl

-- the parts of a difference, added up, are the difference and whole turns
parts_below : (m a d : ℕ) → a + (a + suc d) * m ≡ suc d * m + a * suc m
parts_below m a d = rw (add-mul, mul-suc) (omega arith)

parts_above : (m b d : ℕ) → (b + d) + b * m ≡ d + b * suc m
parts_above m b d = rw mul-suc (omega arith)

difference : (n a b : ℕ) → 0 < n → residue n (sub_ℕ a b) % n ≡ (a + b * (n - 1)) % n
difference zero a b h = absurd (omega arith)
difference (suc m) a b h = let one : suc m - 1 ≡ m = omega arith in rw one (by (ltb a b) (ltb→lt a b) (nltb→le a b))
  where
    by : (l : Bool) → (T l → a < b) → (T (not l) → b ≤ a) → residue (suc m) (cond l (negsuc (b - suc a)) (pos (a - b))) % suc m ≡ (a + b * m) % suc m
    by true p q =
        let one : suc m - 1 ≡ m = omega arith in
        let e : b ≡ a + suc (b - suc a) = omega (arith, p tt) in
        let turns : a + b * m ≡ suc (b - suc a) * m + a * suc m = ap (λ (k : ℕ). a + k * m) e ∙ parts_below m a (b - suc a) in
        rw (one, turns) (sym (add-mul-mod_self_right (suc (b - suc a) * m) a (suc m)))
    by false p q =
        let e : a ≡ b + (a - b) = omega (arith, q tt) in
        let turns : a + b * m ≡ (a - b) + b * suc m = ap (λ (k : ℕ). k + b * m) e ∙ parts_above m b (a - b) in
        rw turns (sym (add-mul-mod_self_right (a - b) b (suc m)))

residue_sum : (n : ℕ) (z s : ℤ) → 0 < n → residue n (z +ℤ s) % n ≡ (residue n z + residue n s) % n
residue_sum n (pos a) (pos b) h = refl
residue_sum n (pos a) (negsuc b) h = difference n a (suc b) h
residue_sum n (negsuc a) (pos b) h = difference n b (suc a) h ∙ ap (λ (k : ℕ). k % n) (omega arith)
residue_sum n (negsuc a) (negsuc b) h =
    let e : suc (suc (a + b)) ≡ suc a + suc b = omega arith in
    ap (λ (k : ℕ). k % n) (ap (λ (k : ℕ). k * (n - 1)) e ∙ add-mul (suc a) (suc b) (n - 1))

pub moved_twice : (n b : ℕ) (z s : ℤ) → 0 < n → moved_bin n b (z +ℤ s) ≡ moved_bin n (moved_bin n b z) s
moved_twice n b z s h =
    moved_by n b (z +ℤ s)
    ∙ sym (add-mod-mod b (residue n (z +ℤ s)) n)
    ∙ ap (λ (k : ℕ). (b + k) % n) (residue_sum n z s h)
    ∙ add-mod-mod b (residue n z + residue n s) n
    ∙ ap (λ (k : ℕ). k % n) (sym (add_assoc b (residue n z) (residue n s)))
    ∙ sym (mod-add-mod (b + residue n z) n (residue n s))
    ∙ ap (λ (k : ℕ). (k + residue n s) % n) (sym (moved_by n b z))
    ∙ sym (moved_by n (moved_bin n b z) s)

pub moved_below : (n b : ℕ) (z : ℤ) → 0 < n → moved_bin n b z < n
moved_below n b z h = rw (moved_by n b z) (mod-lt (b + residue n z) h)
