-- Bytes of the input that are taken: what they print is stored, and the line that is open then is held.
-- Definitions only.
use Rattle.std.specs.Prelude.{ℕ, ◌+◌, ◌≤◌, ◌<◌, List, length}
use Rattle.std.proofs.Math.Seq.{slice}
use Rattle.open_line.specs.declared.Line.{Line}
use Rattle.segment_list.specs.declared.Fed.{Fed}
use Rattle.segment_list.specs.Prints.{printed, open_after}
use Rattle.open_line.specs.Gather.{Gathers}
use Rattle.text.specs.Put.{Put}

-- whatever the line gathers before the bytes, line' gathers what is open after them
abbrev pub Leaves : Line → List ℕ → Line → Type 0
Leaves line bytes line' = (s : List ℕ) → Gathers line s → Gathers line' (open_after s bytes)

-- whatever the line gathers: what the bytes print after it is stored, and line' gathers what is open then
pub record Takes (line : Line) (bytes out : List ℕ) (at : ℕ) (line' : Line) (written : ℕ) (out' : List ℕ) : Type 0 where
  pub prints : (s : List ℕ) → Gathers line s → Put out at (printed s bytes) written out'
  pub leaves : Leaves line bytes line'

-- the bytes of the input from `from` on are taken until it is used up or less room is left than the longest answer wants
pub record Feeds (line : Line) (input : List ℕ) (from : ℕ) (out : List ℕ) (at : ℕ) (r : Fed) (out' : List ℕ) : Type 0 where
  pub takes : Takes line (slice from r.used input) out at r.line r.written out'
  pub within : from ≤ length input → r.used ≤ length input
  pub room : at ≤ length out → r.written ≤ length out
  pub progress : at + 512 ≤ length out → from < length input → from < r.used
  pub whole : r.written + 512 ≤ length out → length input ≤ r.used
