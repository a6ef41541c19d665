-- `root::narrow_root` meets its contract: what `guessed_bits` answers is the contract, and where it has no answer the code is the contract,
-- call for call.
-- Assumes nothing.
use mathlib.Core.Path.{◌≡◌, sym, subst, ap, ◌∙◌}
use mathlib.Core.Bool.{true}
use native.Mathlib.Omega.{arith}
use lib.Dec.{T}
use lib.Ieee.{Float, binary32, binary64, fits}
use lib.Ieee.Bits.{of_bits-to_bits}
use Rattle.root.specs.Root.{root_of}
use Rattle.root.specs.Inner.{NarrowRoot}
use Rattle.ieee.specs.Narrow.{narrow_of}
use Rattle.ieee.specs.Patterns.{no_nan_bits}
use Rattle.root.proofs.narrow_root.Goals as goal

-- what owning an f64 tells: the format holds it
held : (x : Float) → fits binary64 x ≡ true → T (fits binary64 x)
held x e = subst T (sym e) tt

pub float_from_bits-result : goal.float_from_bits-result
float_from_bits-result c = let n : NarrowRoot _ c.in-Some.r = c.in-Some.ensures in no_nan_bits binary32 c.in-Some.r (omega (arith, n.low))

pub returns-in-Some : goal.returns-in-Some
returns-in-Some c =
    let n : NarrowRoot _ c.in-Some.r = c.in-Some.ensures in
    n.is ∙ ap (λ (x : Float). narrow_of (root_of x)) (of_bits-to_bits binary64 c.args.x (held c.args.x c.well_formed.0.1))
