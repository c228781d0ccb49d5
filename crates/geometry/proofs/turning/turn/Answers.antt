-- `turning::turn` meets its contract: the first stage that tells the sign answers. Assumes nothing.
use mathlib.Core.Path.{sym, ◌∙◌}
use Rattle.geometry.proofs.Laws.Side.{turn_by}
use Rattle.geometry.proofs.turning.turn.Goals as goal

pub returns-in-Level : goal.returns-in-Level
returns-in-Level c =
    c.at_once.ensures ∙ turn_by _ _ _ (sym c.in-Level.is ∙ c.filtered.ensures.answer)

pub returns-in-Plus : goal.returns-in-Plus
returns-in-Plus c =
    c.at_once-in-Plus.ensures ∙ turn_by _ _ _ (sym c.in-Plus.is ∙ c.filtered.ensures.answer)

pub returns-in-Minus : goal.returns-in-Minus
returns-in-Minus c =
    c.at_once-in-Minus.ensures ∙ turn_by _ _ _ (sym c.in-Minus.is ∙ c.filtered.ensures.answer)

pub returns-in-Open : goal.returns-in-Open
returns-in-Open c =
    c.exact.ensures ∙ turn_by _ _ _ (sym c.in-Open.is ∙ c.filtered.ensures.answer)
