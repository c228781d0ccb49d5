-- `sum::run` meets its contract: a fault is the refusal, and otherwise the inner run answers. Assumes nothing.
use Rattle.std.proofs.lemmas.Result.{err_from_is_err_and}
use Rattle.sum.proofs.Laws.Refused.{fault_none}
use Rattle.sum.proofs.Laws.Running.{run_says_refused, run_says_done}
use Rattle.sum.proofs.running.run.Goals as goal

pub run_on-requires : goal.run_on-requires
run_on-requires c = fault_none _ c.in_ok-first_fault.ensures

pub returns-in_err-first_fault : goal.returns-in_err-first_fault
returns-in_err-first_fault c =
    let p = err_from_is_err_and c.from_residual.result c.from_residual.ensures.1 in
    rw (p.1, p.2) (run_says_refused _ _ _ c.in_err-first_fault.ensures)

pub returns : goal.returns
returns c = run_says_done _ _ _ _ c.in_ok-first_fault.ensures c.run_on.ensures
