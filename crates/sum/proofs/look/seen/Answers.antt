-- `sum::look::seen` meets its contract: each case of the entry has its law. Assumes nothing.
use Rattle.sum.proofs.Laws.Tally.{seen_highest, seen_positive, seen_lowest, seen_negative, seen_zero}
use Rattle.sum.proofs.look.seen.Goals as goal

pub returns-then-t-x : goal.returns-then-t-x
returns-then-t-x c =
    seen_highest _ _ _ c.if-x.true c.if-t-x.true

pub returns-then-x : goal.returns-then-x
returns-then-x c =
    seen_positive _ _ _ c.if-x.true c.if-t-x.false

pub returns-then-x-t : goal.returns-then-x-t
returns-then-x-t c =
    seen_lowest _ _ _ c.if-x.false c.if-x-2.true c.if-x-t.true

pub returns-then-x-2 : goal.returns-then-x-2
returns-then-x-2 c =
    seen_negative _ _ _ c.if-x.false c.if-x-2.true c.if-x-t.false

pub returns : goal.returns
returns c =
    seen_zero _ _ _ c.if-x.false c.if-x-2.false
