-- `crossing::side_of` meets its contract: accepted points are answered, with the sign of the exact side. Assumes nothing.
use mathlib.Core.Path.{subst}
use Rattle.geometry.specs.Side.{SignSays}
use Rattle.geometry.proofs.Laws.SignCalls.{sign_told}
use Rattle.geometry.proofs.Laws.SignAnswered.{never_refused}
use Rattle.reason.proofs.crossing.side_of.Goals as goal

pub unwrap-requires : goal.unwrap-requires
unwrap-requires c =
    let (a, b, p) = c.requires in
    never_refused _ _ _ _ a b p c.sign.ensures

pub returns : goal.returns
returns c =
    sign_told _ _ _ _ (subst (SignSays _ _ _) c.unwrap.ensures c.sign.ensures)
