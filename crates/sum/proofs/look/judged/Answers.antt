-- `sum::look::judged` meets its contract: by the case of the look, and the two comparisons. Assumes nothing.
use mathlib.Core.Path.{sym, ◌∙◌}
use Rattle.sum.proofs.Laws.Look.{verdict_neither, verdict_positive, verdict_negative}
use Rattle.sum.proofs.Laws.Look.{verdict_plus, verdict_minus, verdict_undecided}
use Rattle.sum.proofs.look.judged.Goals as goal

pub returns-then-exceeds : goal.returns-then-exceeds
returns-then-exceeds c =
    verdict_plus _ _ c.in-Both.is (sym c.exceeds.ensures ∙ c.if-exceeds.true)

pub returns-then-exceeds-2 : goal.returns-then-exceeds-2
returns-then-exceeds-2 c =
    verdict_minus _ _ c.in-Both.is (sym c.exceeds.ensures ∙ c.if-exceeds.false)
    (sym c.exceeds-in-Both.ensures ∙ c.if-exceeds-2.true)

pub returns-in-Neither : goal.returns-in-Neither
returns-in-Neither c =
    verdict_neither _ _ c.in-Neither.is

pub returns-in-Positive : goal.returns-in-Positive
returns-in-Positive c =
    verdict_positive _ _ c.in-Positive.is

pub returns-in-Negative : goal.returns-in-Negative
returns-in-Negative c =
    verdict_negative _ _ c.in-Negative.is

pub returns-else-exceeds-2 : goal.returns-else-exceeds-2
returns-else-exceeds-2 c =
    verdict_undecided _ _ c.in-Both.is (sym c.exceeds.ensures ∙ c.if-exceeds.false)
    (sym c.exceeds-in-Both.ensures ∙ c.if-exceeds-2.false)
