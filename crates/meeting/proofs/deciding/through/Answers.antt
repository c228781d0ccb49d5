-- `deciding::through` meets its contract: by where both pieces begin, or by both ends of the first. Assumes nothing.
use native.Mathlib.Omega.{arith}
use Rattle.meeting.proofs.Laws.Found.{near_found}
use Rattle.meeting.proofs.deciding.through.Goals as goal

pub returns-in-OneSide : goal.returns-in-OneSide
returns-in-OneSide c =
    near_found _ _ _ _ _ c.in-OneSide.ensures c.requires.2 c.side_of-w.ensures c.requires.3

pub returns-in-FirstOn : goal.returns-in-FirstOn
returns-in-FirstOn c =
    grind (arith, near_found _ _ _ _ _ c.sides_of.ensures c.requires.2 c.side_of-w.ensures c.requires.3)
