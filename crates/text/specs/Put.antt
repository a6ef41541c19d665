-- Text that is stored in a lent buffer.
-- Definitions only.
use Rattle.std.specs.Prelude.{ℕ, ◌+◌, ◌-◌, cond, List, ◌≡◌, Result, Ok, Err, leb, length, take}
use Rattle.std.proofs.lemmas.List.Edits.{sets}
use Rattle.text.specs.declared.Cut.{Cut}

-- out' is out with the text stored from index at on, and r is the index behind it
pub record Put (out : List ℕ) (at : ℕ) (text : List ℕ) (r : ℕ) (out' : List ℕ) : Type 0 where
  pub stored : out' ≡ sets out at text
  pub next : r ≡ at + length text

abbrev pub cut : Cut
cut = record {}

-- whether a text that ends before index `end` has room
unfoldable pub fit_of : ℕ → ℕ → Result ℕ Cut
fit_of end room = cond (leb end room) (Ok end) (Err cut)

-- the text is stored from index at on as far as out goes: r is the index behind all of it, or says that its end is cut off
pub record PutCut (out : List ℕ) (at : ℕ) (text : List ℕ) (r : Result ℕ Cut) (out' : List ℕ) : Type 0 where
  pub fit : r ≡ fit_of (at + length text) (length out)
  pub stored : out' ≡ sets out at (take (length out - at) text)
