-- The places by the rule that was in force before.
use Rattle.std.specs.Prelude.{List, Float}
use Rattle.ground.specs.Edge.{edges_of}
use Rattle.ground.specs.Zone.{Lies}
use Rattle.ground.specs.Parity.{place_by_parity}
use Rattle.point.specs.declared.Point.{Point}
use Rattle.point.specs.Spot.{spot_of}
use Rattle.geometry.specs.Zone.{corners_of}

-- Zone 11: the place by odd or even, of what corners and point are worth
abbrev pub odd_or_even : List Float → Point → Lies
odd_or_even xs p = place_by_parity (edges_of (corners_of xs)) (spot_of p)
