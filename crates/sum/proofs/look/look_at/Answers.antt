-- `sum::look::look_at` meets its contract: by which of the two counts is 0. Assumes nothing.
use borrow.Author.Tests.{eq-eqb, ne_eqb}
use Rattle.sum.proofs.look.look_at.Goals as goal

pub returns-then-t-eq0-2 : goal.returns-then-t-eq0-2
returns-then-t-eq0-2 c =
    rw (eq-eqb _ 0 c.if-t-eq0.true, eq-eqb _ 0 c.if-t-eq0-2.true)

pub returns-then-t-eq0 : goal.returns-then-t-eq0
returns-then-t-eq0 c =
    rw (eq-eqb _ 0 c.if-t-eq0.true, ne_eqb _ 0 c.if-t-eq0-2.false)

pub returns-then-t-eq0-3 : goal.returns-then-t-eq0-3
returns-then-t-eq0-3 c =
    rw (ne_eqb _ 0 c.if-t-eq0.false, eq-eqb _ 0 c.if-t-eq0-3.true)

pub returns : goal.returns
returns c =
    rw (ne_eqb _ 0 c.if-t-eq0.false, ne_eqb _ 0 c.if-t-eq0-3.false)
