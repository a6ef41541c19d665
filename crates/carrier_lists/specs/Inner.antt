-- What the inner functions store and take on the way to an operation's answer. No operation's contract cites these.
-- Definitions only.
use Rattle.std.specs.Prelude.{ℕ, ◌+◌, ◌≤◌, ◌<◌, cond, List, ◌≡◌, leb, length, take, drop, Result, Ok, Err}
use Rattle.std.proofs.lemmas.List.Edits.{sets}
use Rattle.lists.specs.Lists.{range, joined, chosen}
use Rattle.params.specs.declared.Mode.{Mode}
use Rattle.params.specs.declared.Refusal.{Refusal}
use Rattle.params.specs.declared.Refusal.TheVariants.{WrongLength}
use Rattle.params.specs.Params.{carriers_per_segment, total_carriers}
use Rattle.ofdm.specs.Band.{place_of, first_carrier}
use Rattle.frame.specs.Roles.{between, is_data}
use Rattle.carrier_lists.specs.CarrierLists.{continual_in, stored_first}

-- the carriers that `collect` stores
abbrev pub collected : List ℕ → ℕ → ℕ → ℕ → List ℕ
collected roles low high first = chosen (between low high) first roles

-- there is room for them, and their numbers are small
pub record Room (roles : List ℕ) (low high first : ℕ) (out : List ℕ) (at : ℕ) : Type 0 where
  pub fits : at + length (collected roles low high first) ≤ length out
  pub small : first + length roles ≤ 5617

pub record Collected (roles : List ℕ) (low high first : ℕ) (out : List ℕ) (at r : ℕ) (out' : List ℕ) : Type 0 where
  pub next : r ≡ at + length (collected roles low high first)
  pub stored : out' ≡ sets out at (collected roles low high first)

-- the data carriers of a segment of a band with these roles
abbrev pub data_in : Mode → List ℕ → ℕ → List ℕ
data_in mode roles seg =
    chosen is_data (first_carrier mode (place_of seg)) (take (carriers_per_segment mode) (drop (first_carrier mode (place_of seg)) roles))

pub record DataRoom (mode : Mode) (roles out : List ℕ) : Type 0 where
  pub band : length roles ≡ total_carriers mode
  pub fits : length (joined (data_in mode roles) (range 13)) ≡ length out

-- a band, and room for its continual list
pub record ContinualRoom (roles out : List ℕ) : Type 0 where
  pub some : 0 < length roles
  pub few : length roles ≤ 5617
  pub fits : length (continual_in roles) ≤ length out

pub record Continual (roles out : List ℕ) (r : Result ℕ Refusal) (out' : List ℕ) : Type 0 where
  pub answer : r ≡ cond (leb (length (continual_in roles)) (length out)) (Ok (length (continual_in roles))) (Err WrongLength)
  pub leaves : out' ≡ cond (leb (length (continual_in roles)) (length out)) (stored_first (continual_in roles) out) out
