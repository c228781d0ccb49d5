-- `plans::judged` meets its contract: by both tests. Assumes nothing.
use mathlib.Core.Path.{sym, ◌∙◌}
use borrow.Author.Tests.{le-leb, lt-leb}
use Rattle.crease.proofs.plans.judged.Goals as goal

pub returns-then-counts-gt-MOST : goal.returns-then-counts-gt-MOST
returns-then-counts-gt-MOST c =
    rw c.refused.ensures (rw (lt-leb _ _ c.if-counts-gt-MOST.true))

pub returns-then-not-is_counted : goal.returns-then-not-is_counted
returns-then-not-is_counted c =
    rw c.refused-then-not-is_counted.ensures (rw (le-leb _ _ c.if-counts-gt-MOST.false, sym c.is_counted.ensures ∙ c.if-not-is_counted.true))

pub returns : goal.returns
returns c =
    rw (le-leb _ _ c.if-counts-gt-MOST.false, sym c.is_counted.ensures ∙ c.if-not-is_counted.false)
