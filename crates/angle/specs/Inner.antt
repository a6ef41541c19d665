-- The words of the contracts inside this crate: what an f64's bits without the sign stand for.
-- Definitions only.
use Rattle.std.specs.Prelude.{cond, ℕ, ◌+◌, ◌-◌, ◌*◌, ◌/◌, ◌%◌, ◌^◌, eqb}

-- the digits and the exponent: b stands for digits b * 2 ^ exponent b units of 2 ^ -1074
unfoldable pub digits : ℕ → ℕ
digits b = cond (eqb (b / 4503599627370496) 0) (b % 4503599627370496) (b % 4503599627370496 + 4503599627370496)

abbrev pub exponent : ℕ → ℕ
exponent b = b / 4503599627370496 - 1

unfoldable pub size_of : ℕ → ℕ
unfolding digits
size_of b = digits b * 2 ^ exponent b
