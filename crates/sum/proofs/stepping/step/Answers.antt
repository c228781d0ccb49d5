-- `sum::stepping::step` meets its contract: each of the three ways to write has its law. Assumes nothing.
use Rattle.sum.proofs.Laws.Stepping.{opposed_down, opposed_up, writes_down, writes_up, writes_level}
use Rattle.sum.proofs.stepping.step.Goals as goal

pub exact_sum-requires : goal.exact_sum-requires
exact_sum-requires c =
    opposed_down _ _ c.requires c.if-b-a.true

pub exact_sum-x-requires : goal.exact_sum-x-requires
exact_sum-x-requires c =
    opposed_up _ _ c.requires c.if-a-b.true

pub returns-then-b-a : goal.returns-then-b-a
returns-then-b-a c =
    writes_down _ _ c.requires c.if-b-a.true c.exact_sum.ensures.x_is c.exact_sum.ensures.y_is

pub returns-then-a-b : goal.returns-then-a-b
returns-then-a-b c =
    writes_up _ _ c.requires c.if-b-a.false c.if-a-b.true c.exact_sum-x.ensures.x_is c.exact_sum-x.ensures.y_is

pub returns-else-a-b : goal.returns-else-a-b
returns-else-a-b c =
    writes_level _ _ c.requires c.if-b-a.false c.if-a-b.false
