-- `tmcc::soft_value` meets its contract: the terms of the segments so far are added up.
-- Assumes nothing.
use Rattle.params.specs.Params.{kind_codes}
use Rattle.tmcc.specs.Inner.{filter_number}
use Rattle.tmcc.proofs.Segments.{Summed}
use Rattle.tmcc.proofs.soft_value.Given as goal

abbrev pub invariant-loop-number : goal.invariant-loop-number
invariant-loop-number l = Summed l.mode (kind_codes l.layout.kinds) (filter_number l.filter) l.spectra l.sum l.number
