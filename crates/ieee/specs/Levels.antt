-- What a reader must believe of the laws of gain. The values of a computation on whole numbers are whole numbers of a unit; `Level` says
-- what is known of a value at a place of the computation, `Scaled` that it holds of a value and of the same value amplified, and `roomy`
-- is the one test to be made at each place, and it computes. Gain has the laws.
-- Definitions only.
use Rattle.std.specs.Prelude.{Bool, false, ◌&&◌, ℕ, suc, ◌+◌, ◌-◌, ◌*◌, ◌^◌, ◌≤◌, pos, leb, ltb, eqb, Float}
use Rattle.std.specs.Float.{fin, Format}
use Rattle.std.specs.Float.Ieee.{prec, emax, low}
use Rattle.std.specs.Float.Ieee.Exact.{HasValue}

-- What is known of a value, and of the same value where every sample was multiplied by 2 ^ k: the first is a whole number of units of
-- 2 ^ -unit, at most most * 2 ^ digits of them, and the second is the first times 2 ^ (power * k).
pub record Level : Type 0 where
  pub unit : ℕ
  pub most : ℕ
  pub digits : ℕ
  pub power : ℕ

pub record Scaled (l : Level) (k : ℕ) (x y : Float) : Type 0 where
  pub sign : Bool
  pub count : ℕ
  pub few : count ≤ l.most * 2 ^ l.digits
  pub here : HasValue x sign count (2 ^ l.unit)
  pub there : HasValue y sign (count * 2 ^ (l.power * k)) (2 ^ l.unit)

-- The format f rounds numbers of this level to whole units again, and does not overflow, for every gain up to 2 ^ top. The bound itself is a
-- value of the format, so that no rounding goes beyond it.
abbrev pub roomy : Format → ℕ → Level → Bool
roomy f top l = leb l.unit (low f) && ltb l.most (2 ^ prec f) && ltb (l.most * 2 ^ (l.digits + l.power * top)) (2 ^ (suc (emax f) + l.unit))

-- ---- the levels of results
-- a product
abbrev pub product : Level → Level → Level
product l m = record { unit = l.unit + m.unit; most = l.most * m.most; digits = l.digits + m.digits; power = l.power + m.power }

-- a sum of n values
abbrev pub many : ℕ → Level → Level
many n l = record { unit = l.unit; most = n * l.most; digits = l.digits; power = l.power }

-- the same value, in units 2 ^ v times as fine
abbrev pub finer : ℕ → Level → Level
finer v l = record { unit = l.unit + v; most = l.most; digits = l.digits + v; power = l.power }

-- whole numbers of at most 2 ^ j
abbrev pub wholes : ℕ → Level
wholes j = record { unit = 0; most = 1; digits = j; power = 1 }

-- a constant of n units of 2 ^ -u, which no gain changes
abbrev pub constant : ℕ → ℕ → Level
constant u n = record { unit = u; most = n; digits = 0; power = 0 }

-- a value of the format f that is zero, or at least 2 ^ -u, is a whole number of a unit that is prec - 1 digits finer
abbrev pub grain : Format → ℕ → ℕ → ℕ → Level
grain f u j p = record { unit = u + (prec f - 1); most = 1; digits = j + (prec f - 1); power = p }

-- every value of the level l is one of the level m
abbrev pub within : Level → Level → Bool
within l m = eqb l.unit m.unit && eqb l.power m.power && leb (l.most * 2 ^ l.digits) (m.most * 2 ^ m.digits)

-- ---- 2 ^ k, and a whole number to be multiplied by it; -0.0 is a whole number
abbrev pub two : ℕ → Float
two k = fin false 1 (pos k)

pub record Whole (j : ℕ) (x : Float) : Type 0 where
  pub sign : Bool
  pub size : ℕ
  pub few : size ≤ 2 ^ j
  pub is : HasValue x sign size 1
