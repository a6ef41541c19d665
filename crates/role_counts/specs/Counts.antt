-- How many carriers of each role a segment has, by its mode and kind. That these are the counts of its roles is `counted_roles`'s law.
-- Assumes nothing.
use Rattle.std.specs.Prelude.{ℕ, ◌*◌, ◌-◌, ◌≤◌, List, eqb, length}
use Rattle.std.proofs.Common.{lit≤}
use Rattle.lists.specs.Lists.{select}
use Rattle.params.specs.declared.Mode.{Mode}
use Rattle.params.specs.declared.Mode.TheVariants.{M1, M2, M3}
use Rattle.params.specs.declared.SegmentKind.{SegmentKind}
use Rattle.params.specs.declared.SegmentKind.TheVariants.{Coherent, Differential}
use Rattle.frame.specs.declared.CarrierRole.{CarrierRole}
use Rattle.frame.specs.Roles.{role_byte}
use Rattle.role_counts.specs.declared.KindCounts.{KindCounts}

-- how many carriers of a segment have a role
abbrev pub count_role : CarrierRole → List ℕ → ℕ
count_role r roles = length (select (λ b. eqb b (role_byte r)) roles)

-- mode 1's segment is the unit of carriers
abbrev pub units : Mode → ℕ
units M1 = 1
units M2 = 2
units M3 = 4

abbrev pub kind_counts : Mode → SegmentKind → KindCounts
kind_counts mode Coherent = record { «data» = 96 * units mode; sp = 9 * units mode; cp = 0; tmcc = units mode; ac1 = 2 * units mode; ac2 = 0 }
kind_counts mode Differential = record { «data» = 96 * units mode; sp = 0; cp = 1; tmcc = 5 * units mode; ac1 = 2 * units mode; ac2 = 5 * units mode - 1 }

-- the largest counts, in mode 3
pub record Few (k : KindCounts) : Type 0 where
  pub «data» : k.«data» ≤ 384
  pub sp : k.sp ≤ 36
  pub cp : k.cp ≤ 1
  pub tmcc : k.tmcc ≤ 20
  pub ac1 : k.ac1 ≤ 8
  pub ac2 : k.ac2 ≤ 19

pub few : (mode : Mode) (kind : SegmentKind) → Few (kind_counts mode kind)
few M1 Coherent = record { «data» = lit≤ tt; sp = lit≤ tt; cp = lit≤ tt; tmcc = lit≤ tt; ac1 = lit≤ tt; ac2 = lit≤ tt }
few M1 Differential = record { «data» = lit≤ tt; sp = lit≤ tt; cp = lit≤ tt; tmcc = lit≤ tt; ac1 = lit≤ tt; ac2 = lit≤ tt }
few M2 Coherent = record { «data» = lit≤ tt; sp = lit≤ tt; cp = lit≤ tt; tmcc = lit≤ tt; ac1 = lit≤ tt; ac2 = lit≤ tt }
few M2 Differential = record { «data» = lit≤ tt; sp = lit≤ tt; cp = lit≤ tt; tmcc = lit≤ tt; ac1 = lit≤ tt; ac2 = lit≤ tt }
few M3 Coherent = record { «data» = lit≤ tt; sp = lit≤ tt; cp = lit≤ tt; tmcc = lit≤ tt; ac1 = lit≤ tt; ac2 = lit≤ tt }
few M3 Differential = record { «data» = lit≤ tt; sp = lit≤ tt; cp = lit≤ tt; tmcc = lit≤ tt; ac1 = lit≤ tt; ac2 = lit≤ tt }
