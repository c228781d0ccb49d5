-- `sum::running::run_on` meets its contract. The loop's invariant is `Going`, its measure what is left of the budget. Assumes nothing.
use mathlib.Core.Path.{sym, ◌∙◌}
use native.Mathlib.Omega.{arith}
use Rattle.sum.proofs.Laws.Running.{going_start, going_stepping, going_decided, going_out, going_step, verdict_is}
use Rattle.sum.proofs.running.run_on.Goals as goal

pub loop-list-init : goal.loop-list-init
loop-list-init c =
    going_start _ _ c.requires c.type_inv.list

pub tallied-t-requires : goal.tallied-t-requires
tallied-t-requires c =
    c.loop-list.invariant.short

pub returns-in_default : goal.returns-in_default
returns-in_default c =
    let v = verdict_is _ c.tallied-t.ensures c.look_at.ensures c.judged-v.ensures in
    going_decided c.loop-list.invariant v c.in_default.is

pub returns-then-budget-steps : goal.returns-then-budget-steps
returns-then-budget-steps c =
    let v = verdict_is _ c.tallied-t.ensures c.look_at.ensures c.judged-v.ensures in
    going_out c.loop-list.invariant v c.if-budget-steps.true

pub step-requires : goal.step-requires
step-requires c =
    let v = verdict_is _ c.tallied-t.ensures c.look_at.ensures c.judged-v.ensures in
    going_stepping c.loop-list.invariant c.tallied-t.ensures (sym v ∙ c.in-None.is)

pub overflow_add-steps : goal.overflow_add-steps
overflow_add-steps c =
    omega (arith, c.if-budget-steps.false)

pub loop-list-smaller : goal.loop-list-smaller
loop-list-smaller c =
    omega (arith, c.if-budget-steps.false)

pub loop-list-preserved : goal.loop-list-preserved
loop-list-preserved c =
    let v = verdict_is _ c.tallied-t.ensures c.look_at.ensures c.judged-v.ensures in
    let u = sym v ∙ c.in-None.is in
    rw c.step.ensures (going_step c.loop-list.invariant u c.if-budget-steps.false)
