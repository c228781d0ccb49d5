-- `sum::running::run_on` meets its contract. The loop's invariant is `Going`, its measure what is left of the budget. Assumes nothing.
use Prim.Native.Nat.{◌-◌}
use Rattle.sum.proofs.Laws.Running.{Going}
use Rattle.sum.proofs.running.run_on.Given as goal

abbrev pub invariant-loop-list : goal.invariant-loop-list
invariant-loop-list l = Going l.budget l.initial.list l.steps l.list

abbrev pub decreases-loop-list : goal.decreases-loop-list
decreases-loop-list l = l.budget - l.steps
