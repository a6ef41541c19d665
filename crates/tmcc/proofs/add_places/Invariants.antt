-- `tmcc::add_places` meets its contract: the sum so far, with the terms ahead, is the whole.
-- Assumes nothing.
use Rattle.tmcc.proofs.Adding.{Ahead}
use Rattle.tmcc.proofs.add_places.Given as goal

abbrev pub invariant-loop-p : goal.invariant-loop-p
invariant-loop-p l = Ahead l.start l.mode l.place.0 l.spectra l.places l.sum l.p-index
