-- `plans::is_counted` meets its contract. The loop's invariant: what is left fits the counts that are left if and only if all fits. Assumes nothing.
use mathlib.Core.Path.{sym, ap, ◌∙◌}
use native.Mathlib.Omega.{arith}
use lib.Dec.{eqb}
use Rattle.crease.proofs.Laws.Zones.{counted_done, counted_odd, counted_even, counted_short, counted_left}
use Rattle.crease.proofs.plans.is_counted.Goals as goal

pub returns-then-doubles-eq1 : goal.returns-then-doubles-eq1
returns-then-doubles-eq1 c =
    counted_odd _ _ c.if-doubles-eq1.true

pub loop-n-init : goal.loop-n-init
loop-n-init c =
    counted_even _ _ c.if-doubles-eq1.false

pub returns-in_default : goal.returns-in_default
returns-in_default c =
    counted_short _ _ _ c.loop-n-test.true (omega (arith, c.in_default.ensures)) ∙ sym c.loop-n.invariant

pub loop-n-preserved : goal.loop-n-preserved
loop-n-preserved c =
    rw c.in-Some.ensures.1 (c.loop-n.invariant ∙ counted_left _ _ _ c.loop-n-test.true c.in-Some.ensures.0)

pub returns : goal.returns
returns c =
    let left = c.loop-n.left in
    ap (eqb left) (sym (counted_done _ _ c.loop-n-test.false)) ∙ sym c.loop-n.invariant
