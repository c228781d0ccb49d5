-- `filter::told_by` meets its contract: by the tests' outcomes. Assumes nothing.
use Rattle.side_filter.proofs.Laws.Filter.{by_x, by_y, by_plus, by_minus, by_none}
use Rattle.side_filter.proofs.filter.told_by.Goals as goal

pub returns-then-x : goal.returns-then-x
returns-then-x c =
    elim c.then-x.branch [
      | goal.then-x-via-then-x w ↦ by_x _ _ _ w.if-x.true
      | goal.then-x-via-else-x+then-y w ↦ by_y _ _ _ w.if-x.false w.if-y.true
    ]

pub returns-then-e-d : goal.returns-then-e-d
returns-then-e-d c =
    by_plus _ _ _ c.if-x.false c.if-y.false c.if-e-d.true

pub returns-then-d-e : goal.returns-then-d-e
returns-then-d-e c =
    by_minus _ _ _ c.if-x.false c.if-y.false c.if-e-d.false c.if-d-e.true

pub returns-else-d-e : goal.returns-else-d-e
returns-else-d-e c =
    by_none _ _ _ c.if-x.false c.if-y.false c.if-e-d.false c.if-d-e.false
