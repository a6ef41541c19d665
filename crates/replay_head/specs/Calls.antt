-- What the head of a stored record asks for (oracle/README.md, "The stored answers").
-- Definitions only.
use Rattle.std.specs.Prelude.{ℕ, List, get_or, cond, leb, Result, Ok, Err, ◌≡◌, ◌≢◌}
use Rattle.replay.specs.declared.Cut.{Cut}
use Rattle.replay.specs.Answers.{number_at}
use Rattle.replay_head.specs.declared.Call.{Call}
use Rattle.replay_head.specs.declared.Operation.{Operation}
use Rattle.replay_head.specs.declared.Operation.TheVariants.{CarrierBin, RoleMap, SignMap, DataList, ContinualList, SamplesNeeded}
use Rattle.replay_head.specs.declared.Operation.TheVariants.{DetectMode, IntegerCfo, DetectKinds, TmccSoft, DetectSpPhase, EstimateGrid}
use Rattle.replay_head.specs.declared.Operation.TheVariants.{Root, Narrow, Norm32, Norm64, FrameStart, BinRatio, CarrierRole, Angle, CfoFrac}

abbrev pub operation_number : Operation → ℕ
operation_number CarrierBin = 1
operation_number RoleMap = 2
operation_number SignMap = 3
operation_number DataList = 4
operation_number ContinualList = 5
operation_number SamplesNeeded = 6
operation_number DetectMode = 7
operation_number IntegerCfo = 8
operation_number DetectKinds = 9
operation_number TmccSoft = 10
operation_number DetectSpPhase = 11
operation_number EstimateGrid = 12
operation_number Root = 13
operation_number Narrow = 14
operation_number Norm32 = 15
operation_number Norm64 = 16
operation_number FrameStart = 17
operation_number BinRatio = 18
operation_number CarrierRole = 19
operation_number Angle = 20
operation_number CfoFrac = 21

-- the operation of a number, if one has it
abbrev pub OperationTold : ℕ → Result Operation Cut → Type 0
OperationTold n (Ok operation) = operation_number operation ≡ n
OperationTold n (Err cut) = (operation : Operation) → operation_number operation ≢ n

-- the call that a head asks for
pub record Asked (head : List ℕ) (call : Call) : Type 0 where
  pub code : call.code ≡ get_or head 1 0
  pub mode : call.mode ≡ get_or head 2 0
  pub choice : call.choice ≡ get_or head 4 0
  pub first : call.first ≡ number_at head 2
  pub second : call.second ≡ number_at head 4
  pub third : call.third ≡ number_at head 6
  pub fourth : call.fourth ≡ number_at head 8
  pub lent : call.lent ≡ number_at head 10

-- a call, if it is lent no more entries than there is room for
abbrev pub within_room : Call → Result Call Cut
within_room call = cond (leb call.lent 32259) (Ok call) (Err record {})
