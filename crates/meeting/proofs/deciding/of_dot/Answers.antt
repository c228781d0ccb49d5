-- `deciding::of_dot` meets its contract: by the sign of the side. Assumes nothing.
use native.Mathlib.Omega.{arith}
use Rattle.sum.specs.declared.answer.Sign.TheVariants.{Zero}
use Rattle.meeting.proofs.Laws.Found.{of_dot_found}
use Rattle.meeting.proofs.deciding.of_dot.Goals as goal

pub returns-in-Zero : goal.returns-in-Zero
returns-in-Zero c =
    of_dot_found _ _ Zero c.in-Zero.ensures

pub returns-in-Plus : goal.returns-in-Plus
returns-in-Plus c =
    grind (arith, of_dot_found _ _ _ c.side_of.ensures)
