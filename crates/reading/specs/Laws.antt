-- The cases of what a read returned.
-- Assumes nothing.
use Rattle.std.specs.Prelude.{ℕ, ◌<◌, ◌≤◌, zero, suc, List, Option, Some, None, Result, Ok, Err, ◌≡◌, refl, IfOk, IfSome}
use Rattle.std.proofs.Common.{arith}
use Rattle.std.specs.declared.io.Error.{Error}
use Rattle.std.specs.Io.KnownBytes.{ReadConsumes}
use Rattle.reading.specs.Read.{read_told, Moved, TurnConsumes}

pub told_failed : (e : Error) → Err e ≡ read_told (Err e)
unfolding read_told
told_failed e = refl

pub told_ended : (k : ℕ) → k ≡ 0 → Ok None ≡ read_told (Ok k)
unfolding read_told
told_ended k e = rw e

pub told_more : (k : ℕ) → (k ≡ 0 → ⊥) → Ok (Some k) ≡ read_told (Ok k)
unfolding read_told
told_more zero h = absurd (h refl)
told_more (suc k) h = refl

-- a read counts no more bytes than the buffer has
pub more_within : (got : Result ℕ Error) (n k : ℕ) → Moved n got → read_told got ≡ Ok (Some k) → k ≤ n
unfolding read_told
more_within (Err e) n k m q = absurd (cc)
more_within (Ok zero) n k m q = absurd (cc)
more_within (Ok (suc i)) n k m q = let same : suc i ≡ k = cc in omega (arith, m)

pub turn_within : (got : Result ℕ Error) (n : ℕ) → Moved n got → IfOk (read_told got) (λ found. IfSome found (λ k. (0 < k) × (k ≤ n)))
unfolding read_told
turn_within (Err e) n m = tt
turn_within (Ok zero) n m = tt
turn_within (Ok (suc i)) n m = (omega arith, m)

pub turn_consumes : (got : Result ℕ Error) (old new : Option (List ℕ)) (buffer : List ℕ) → ReadConsumes old new got buffer
    → TurnConsumes old new (read_told got) buffer
unfolding read_told
turn_consumes (Err e) old new buffer h = h
turn_consumes (Ok zero) old new buffer h = (h.0, h.1 refl)
turn_consumes (Ok (suc i)) old new buffer h = h.0
