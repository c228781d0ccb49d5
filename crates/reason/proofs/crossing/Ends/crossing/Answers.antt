-- `Ends::crossing` meets its contract: by the heights, and then by the sign. Assumes nothing.
use native.Mathlib.Omega.{arith}
use Rattle.geometry.proofs.Laws.Edges.{crossing_under, crossing_over, crossing_rising, crossing_falling}
use Rattle.reason.proofs.Laws.Crossing.{real_of}
use Rattle.reason.proofs.crossing.Ends.crossing.Goals as goal
use Rattle.reason.proofs.crossing.Ends.crossing.Goals.{else-p-to-via-then-p-to+else-matches, else-p-to-via-else-p-to}
use Rattle.reason.proofs.crossing.Ends.crossing.Goals.{else-to-p-via-then-to-p+else-matches-2, else-to-p-via-else-to-p}

pub returns-then-matches : goal.returns-then-matches
returns-then-matches c =
    let (A, B, P) = c.requires in
    grind (
      arith,
      crossing_rising _ _ _ (real_of _ A) (real_of _ B) (real_of _ P) _ c.side_of.ensures c.if-from-p.true c.if-p-to.true,
    )

pub returns-else-p-to : goal.returns-else-p-to
returns-else-p-to c =
    let (A, B, P) = c.requires in
    elim c.else-p-to.branch [
      | else-p-to-via-then-p-to+else-matches w ↦
          grind (
            arith,
            crossing_rising _ _ _ (real_of _ A) (real_of _ B) (real_of _ P) _ w.side_of.ensures c.if-from-p.true w.if-p-to.true,
          )
      | else-p-to-via-else-p-to w ↦ crossing_under _ _ _ (real_of _ A) (real_of _ B) (real_of _ P) c.if-from-p.true w.if-p-to.false
    ]

pub returns-then-matches-2 : goal.returns-then-matches-2
returns-then-matches-2 c =
    let (A, B, P) = c.requires in
    grind (
      arith,
      crossing_falling _ _ _ (real_of _ A) (real_of _ B) (real_of _ P) _ c.side_of-then-to-p.ensures c.if-from-p.false c.if-to-p.true,
    )

pub returns-else-to-p : goal.returns-else-to-p
returns-else-to-p c =
    let (A, B, P) = c.requires in
    elim c.else-to-p.branch [
      | else-to-p-via-then-to-p+else-matches-2 w ↦
          grind (
            arith,
            crossing_falling _ _ _ (real_of _ A) (real_of _ B) (real_of _ P) _ w.side_of-then-to-p.ensures c.if-from-p.false w.if-to-p.true,
          )
      | else-to-p-via-else-to-p w ↦ crossing_over _ _ _ (real_of _ A) (real_of _ B) (real_of _ P) c.if-from-p.false w.if-to-p.false
    ]
