-- `deciding::by_both` meets its contract: by the sides of both ends. Assumes nothing.
use native.Mathlib.Omega.{arith}
use Rattle.meeting.proofs.Laws.Found.{far_found}
use Rattle.meeting.proofs.deciding.by_both.Goals as goal

pub returns-in-OneSide : goal.returns-in-OneSide
returns-in-OneSide c =
    far_found _ _ _ _ _ c.in-OneSide.ensures c.requires.2 c.side_of-z.ensures

pub returns-in-Opposite : goal.returns-in-Opposite
returns-in-Opposite c =
    far_found _ _ _ _ _ c.in-Opposite.ensures c.requires.2 c.side_of-z.ensures

pub returns-in-FirstOn : goal.returns-in-FirstOn
returns-in-FirstOn c =
    grind (arith, far_found _ _ _ _ _ c.sides_of.ensures c.requires.2 c.side_of-z.ensures)
