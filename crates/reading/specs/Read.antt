-- What a read returned says of the input.
-- Definitions only.
use Rattle.std.specs.Prelude.{ℕ, ◌≤◌, ◌<◌, zero, suc, List, [], length, take, Option, Some, None, Result, Ok, Err, IfOk}
use Rattle.std.specs.Io.KnownBytes.{Keeps, Consumes, IsAtEnd}
use Rattle.std.specs.declared.io.Error.{Error}

-- a failed read stays failed, 0 is the end of the input, any other number counts the bytes that were read
unfoldable pub read_told : Result ℕ Error → Result (Option ℕ) Error
read_told (Err e) = Err e
read_told (Ok zero) = Ok None
read_told (Ok (suc k)) = Ok (Some (suc k))

-- what a read that is handed n bytes may return: it fails, or counts at most n bytes
abbrev pub Moved : ℕ → Result ℕ Error → Type 0
Moved n got = IfOk got (λ k. k ≤ n)

-- what a turn leaves of an input whose bytes are known: what it reads stands at the start of the buffer, it
-- tells the end only at the end or where the buffer has no room, and where it fails it reads nothing
abbrev pub TurnConsumes : {E : Type 0} → Option (List ℕ) → Option (List ℕ) → Result (Option ℕ) E → List ℕ → Type 0
TurnConsumes old new (Err e) buffer = Keeps old new
TurnConsumes old new (Ok None) buffer = Consumes old new [] × (0 < length buffer → IsAtEnd new)
TurnConsumes old new (Ok (Some n)) buffer = Consumes old new (take n buffer)
