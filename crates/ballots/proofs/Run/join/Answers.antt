-- `ballots::Run::join` meets its contract: it is the definition, call for call.
-- Assumes nothing.
use mathlib.Core.Path.{◌≡◌, refl, sym, ap, ◌∙◌}
use lib.Ieee.{Float, binary32, add, mul}
use Rattle.root.specs.Root.{root_of}
use Rattle.ieee.specs.Narrow.{narrow_of}
use Rattle.complex.specs.Complex.{of32, product, plus, norm32}
use Rattle.complex.specs.Turns.{norm32_is}
use Rattle.ballots.specs.declared.Pilot.{Pilot}
use Rattle.ballots.specs.Inner.{Sized}
use Rattle.ballots.proofs.Run.join.Goals as goal

-- the narrowed root of a pilot's squared size is its norm
normed : {n : Float} (p : Pilot) → Sized p → n ≡ narrow_of (root_of p.square) → n ≡ norm32 (of32 p.value)
normed p s e = e ∙ ap (λ (x : Float). narrow_of (root_of x)) s.square ∙ sym (norm32_is (of32 p.value))

pub returns-in-None : goal.returns-in-None
returns-in-None c =
    let off = c.in-None.is in
    record { last = _; keeps = refl; value = refl; norm = normed c.args.pilot c.requires c.narrow_root-norm.ensures; sum = rw off; energy = rw off }

pub returns-in-Some : goal.returns-in-Some
returns-in-Some c =
    let v = of32 c.args.pilot.value in
    let size = normed c.args.pilot c.requires c.narrow_root-norm.ensures in
    let times = c.mul.ensures ∙ ap (product binary32 v) c.conj.ensures in
    record {
      last = _;
      keeps = refl;
      value = refl;
      norm = size;
      sum = rw c.in-Some.is (c.add.ensures ∙ ap (plus binary32 (of32 c.args.self.sum)) times);
      energy = rw c.in-Some.is (ap (λ (z : Float). add binary32 c.args.self.energy (mul binary32 c.in-Some.before.norm z)) size);
    }
