-- `zones::corners_accepted` meets its contract. The loop's invariant: what is found from entry i on is what is found in the whole list.
-- Assumes nothing.
use Prim.Native.Nat.{◌+◌}
use mathlib.Core.Path.{◌≡◌}
use lib.ListN.{drop}
use Rattle.point.specs.Accepted.{accepting_from}
use Rattle.geometry.proofs.zones.corners_accepted.Given as goal

abbrev pub invariant-loop-i : goal.invariant-loop-i
invariant-loop-i l = accepting_from (l.i + 2) (drop l.i l.corners) (tt {0}) ≡ accepting_from 2 l.corners tt
