-- `deciding::decide` meets its contract: by what the boxes have in common. Assumes nothing.
use mathlib.Core.Path.{◌∙◌}
use Rattle.meeting.proofs.Laws.Found.{shared_found, found_shared}
use Rattle.meeting.proofs.deciding.decide.Goals as goal

pub returns-in-None : goal.returns-in-None
returns-in-None c =
    shared_found _ _ c.requires.0 c.requires.1 _ c.in-None.ensures

pub in_boxes-requires : goal.in_boxes-requires
in_boxes-requires c =
    (c.requires.0, c.requires.1, found_shared _ _ _ c.in-Some.ensures)

pub returns-in-Some : goal.returns-in-Some
returns-in-Some c =
    c.in_boxes.ensures ∙ shared_found _ _ c.requires.0 c.requires.1 _ c.in-Some.ensures
