-- `Ends::has_corner` meets its contract: by both ends. Assumes nothing.
use native.Mathlib.Omega.{arith}
use Rattle.reason.proofs.Laws.Crossing.{real_of, corner_worth}
use Rattle.reason.proofs.crossing.Ends.has_corner.Goals as goal

pub returns-then-eq : goal.returns-then-eq
returns-then-eq c =
    let (A, B, P) = c.requires in
    grind (arith, corner_worth _ _ _ (real_of _ A) (real_of _ B) (real_of _ P))

pub returns-else-eq : goal.returns-else-eq
returns-else-eq c =
    let (A, B, P) = c.requires in
    grind (arith, corner_worth _ _ _ (real_of _ A) (real_of _ B) (real_of _ P))
