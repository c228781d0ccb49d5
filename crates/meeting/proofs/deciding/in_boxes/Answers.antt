-- `deciding::in_boxes` meets its contract: by which of the two are points. Assumes nothing.
use mathlib.Core.Path.{◌∙◌}
use Rattle.meeting.proofs.Laws.Found.{dots_found}
use Rattle.meeting.proofs.deciding.in_boxes.Goals as goal

pub returns-in-true-true : goal.returns-in-true-true
returns-in-true-true c =
    dots_found _ _ c.requires.0 c.requires.1 c.in-true-true.ensures c.in-true-true.ensures'

pub returns-in-true-false : goal.returns-in-true-false
returns-in-true-false c =
    c.of_dot.ensures ∙ dots_found _ _ c.requires.0 c.requires.1 c.in-true-false.ensures c.in-true-false.ensures'

pub returns-in-false-true : goal.returns-in-false-true
returns-in-false-true c =
    c.of_dot-in-false-true.ensures ∙ dots_found _ _ c.requires.0 c.requires.1 c.in-false-true.ensures c.in-false-true.ensures'

pub returns-in-false-false : goal.returns-in-false-false
returns-in-false-false c =
    c.of_long.ensures ∙ dots_found _ _ c.requires.0 c.requires.1 c.in-false-false.ensures c.in-false-false.ensures'
