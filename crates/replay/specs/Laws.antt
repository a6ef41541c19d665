-- The bits of floats are those that std gives, since it has one pattern for a NaN too; and what a check
-- leaves of a count.
-- Assumes nothing.
use Rattle.std.specs.Prelude.{ℕ, ◌≤◌, List, ◌≡◌, refl, Float}
use Rattle.std.specs.Float.{nan, inf, fin, binary32, binary64}
use Rattle.std.specs.Float.Ieee.{is_nan, to_bits}
use Rattle.tally.specs.declared.Tally.{Tally}
use Rattle.replay.specs.declared.Owed.{Owed}
use Rattle.replay.specs.Answers.{bits32, bits64, Compared, Found}

pub same_bits32 : (x : Float) → to_bits binary32 x ≡ bits32 x
unfolding is_nan to_bits
same_bits32 nan = refl
same_bits32 (inf s) = refl
same_bits32 (fin s m e) = refl

pub same_bits64 : (x : Float) → to_bits binary64 x ≡ bits64 x
unfolding is_nan to_bits
same_bits64 nan = refl
same_bits64 (inf s) = refl
same_bits64 (fin s m e) = refl

-- ---- what a check leaves of a count
pub found : {got : ℕ → ℕ} {n : ℕ} {t r : Tally} (stored : List ℕ) (owed : Owed) → owed.written ≤ n
    → Compared got stored owed n t r → Found got n t r
found stored owed h c = record { stored = stored; owed = owed; few = h; compared = c }
