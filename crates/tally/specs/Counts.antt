-- Counts that stay at the largest number: one more entry, and one after another.
-- Assumes nothing.
use Rattle.std.specs.Prelude.{ℕ, ◌+◌, ◌≤◌, ◌<◌, Bool, cond, ◌≡◌}
use Rattle.std.proofs.Common.{add-one, arith}
use Rattle.tally.specs.declared.Tally.{Tally}
use Rattle.tally.specs.Tally.{capped, Counted, unlike}

-- the largest number that a count holds
abbrev largest : ℕ
largest = 18446744073709551615

pub capped_low : (n : ℕ) → n ≤ largest → n ≡ capped n
capped_low n h = omega arith

pub capped_high : (n : ℕ) → largest < n → largest ≡ capped n
capped_high n h = omega arith

-- counts that are added one after another stay as those that are added at once
capped_twice : (a b : ℕ) → capped (capped a + b) ≡ capped (a + b)
capped_twice a b = omega arith

-- a count that is kept
pub kept : (n : ℕ) → n ≤ largest → n ≡ capped (n + 0)
kept n h = omega arith

pub counted_more : (t s r : Tally) (a b n m : ℕ) → Counted t a n s → Counted s b m r → Counted t (a + b) (n + m) r
counted_more t s r a b n m h g = record {
  compared = omega (arith, h.compared, g.compared);
  differ = omega (arith, h.differ, g.differ);
}

-- ---- entries compared one after another: none, and one more
pub none_counted : (t : Tally) (same : ℕ → Bool) → t.compared ≤ largest → t.differ ≤ largest → Counted t 0 (unlike same 0) t
unfolding unlike
none_counted t same h g = record { compared = kept t.compared h; differ = kept t.differ g }

pub one_counted : (t s r : Tally) (same : ℕ → Bool) (i : ℕ) (b : Bool) → b ≡ same i → Counted t i (unlike same i) s
    → Counted s 1 (cond b 0 1) r → Counted t (i + 1) (unlike same (i + 1)) r
unfolding unlike
one_counted t s r same i b e h g =
    let m = counted_more t s r i 1 (unlike same i) (cond b 0 1) h g in
    rw (add-one i) (record { compared = rw (add-one i) at m.compared; differ = rw e at m.differ })

-- a single entry
pub single_counted : (t r : Tally) (same : ℕ → Bool) (b : Bool) → b ≡ same 0 → Counted t 1 (cond b 0 1) r → Counted t 1 (unlike same 1) r
unfolding unlike
single_counted t r same b e h = record { compared = h.compared; differ = let d = rw e at h.differ in omega (arith, d) }
