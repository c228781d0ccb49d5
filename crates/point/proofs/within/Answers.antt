-- `point::within` meets its contract: by the first comparison's outcome. Assumes nothing.
use Rattle.point.specs.Parts.{within_of}
use Rattle.point.proofs.within.Goals as goal

pub returns-then-least-m : goal.returns-then-least-m
unfolding within_of
returns-then-least-m c =
    rw c.magnitude-m.ensures (rw (rw c.magnitude-m.ensures at c.if-least-m.true))

pub returns-else-least-m : goal.returns-else-least-m
unfolding within_of
returns-else-least-m c =
    rw c.magnitude-m.ensures (rw (rw c.magnitude-m.ensures at c.if-least-m.false))
