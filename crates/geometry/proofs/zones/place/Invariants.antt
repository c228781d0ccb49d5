-- `zones::place` meets its contract. The loop's invariant: the walk from edge k on answers what the whole walk does. Assumes nothing.
use mathlib.Core.Path.{◌≡◌}
use Rattle.geometry.specs.Zone.{place_in}
use Rattle.geometry.proofs.Laws.Zone.{walk_from}
use Rattle.geometry.proofs.zones.place.Given as goal

abbrev pub invariant-loop-k : goal.invariant-loop-k
invariant-loop-k l = walk_from l.corners l.p l.k ≡ place_in l.corners l.p
