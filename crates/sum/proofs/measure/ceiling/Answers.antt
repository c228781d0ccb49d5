-- `sum::measure::ceiling` meets its contract: what first_fault finds says whether the list is refused; the two passes are the definition.
-- Assumes nothing.
use Rattle.std.proofs.lemmas.Result.{err_from_is_err_and}
use Rattle.sum.proofs.Laws.Refused.{fault_none}
use Rattle.sum.proofs.Laws.Ceiling.{ceiling_refused, ceiling_measured}
use Rattle.sum.proofs.measure.ceiling.Goals as goal

pub grain-requires : goal.grain-requires
grain-requires c = (fault_none _ c.in_ok-first_fault.ensures).finite

pub weight-requires : goal.weight-requires
weight-requires c = fault_none _ c.in_ok-first_fault.ensures

pub returns-in_err-first_fault : goal.returns-in_err-first_fault
returns-in_err-first_fault c =
    let p = err_from_is_err_and c.from_residual.result c.from_residual.ensures.1 in
    rw (p.1, p.2) (ceiling_refused _ _ c.in_err-first_fault.ensures)

pub returns : goal.returns
returns c = ceiling_measured _ _ _ c.in_ok-first_fault.ensures c.grain.ensures c.weight.ensures
