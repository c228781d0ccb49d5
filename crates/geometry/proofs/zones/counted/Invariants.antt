-- `zones::counted` meets its contract. The loop's invariant: the counts are those of the edges from edge k on, and the edge before them ends
-- where they begin. Assumes nothing.
use mathlib.Core.Path.{◌≡◌}
use mathlib.Core.Bool.{cond}
use lib.Dec.{ltb}
use lib.ListN.{drop}
use Rattle.ground.specs.Edge.{edges_of}
use Rattle.point.specs.Spot.{spot_of}
use Rattle.geometry.specs.Zone.{corners_of, corner_at}
use Rattle.geometry.specs.Parts.{counts_of}
use Rattle.geometry.proofs.zones.counted.Given as goal

abbrev pub invariant-loop-k : goal.invariant-loop-k
invariant-loop-k l =
    (l.c ≡ counts_of (drop l.k (edges_of (corners_of l.corners))) (spot_of l.p)) × (l.to ≡ corner_at l.corners (cond (ltb l.k l.n) l.k 0))
