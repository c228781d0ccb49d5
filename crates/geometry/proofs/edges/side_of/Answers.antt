-- `edges::side_of` meets its contract: the turn's sign is the determinant's. Assumes nothing.
use Rattle.geometry.proofs.Laws.Owned.{owned_within}
use Rattle.geometry.proofs.Laws.Side.{turn_said_sign}
use Rattle.geometry.proofs.edges.side_of.Goals as goal

pub returns : goal.returns
returns c =
    let a = c.well_formed.0.1.1 in
    let b = c.well_formed.1.0.1.1 in
    let p = c.well_formed.1.1.0.1.1 in
    turn_said_sign _ _ _ (owned_within _ a.0.1 a.1.0.1 c.requires.0) (owned_within _ b.0.1 b.1.0.1 c.requires.1)
    (owned_within _ p.0.1 p.1.0.1 c.requires.2) c.turn.result c.turn.ensures
