-- What the inner functions take and give on the way to the answer. No operation's contract cites these.
-- Definitions only.
use Rattle.std.specs.Prelude.{ℕ, false}
use Rattle.lists.specs.Tests.{memb}
use Rattle.params.specs.declared.Mode.{Mode}
use Rattle.params.specs.declared.SegmentKind.{SegmentKind}
use Rattle.tables.specs.Places.{tmcc_of, ac1_of, ac2_of}
use Rattle.frame.specs.declared.CarrierRole.{CarrierRole}
use Rattle.frame.specs.Roles.{first_claim}

-- the role of a place that no pilot claims
abbrev pub table_role : Mode → SegmentKind → ℕ → ℕ → CarrierRole
table_role mode kind row p =
    first_claim false false (memb p (tmcc_of mode kind row)) (memb p (ac1_of mode kind row)) (memb p (ac2_of mode kind row))
