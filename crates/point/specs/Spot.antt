-- A point by what its coordinates are worth, in units of 2^-1074: the rules of `ground` are about these. So values are compared, and
-- the two zeros are equal (Zone 8).
use Rattle.std.specs.Prelude.{◌^◌, ℤ, pos}
use Rattle.ground.specs.Plane.{Spot}
use Rattle.double.specs.Worth.{worth}
use Rattle.point.specs.declared.Point.{Point}
use Rattle.ground.specs.Plane as plane

abbrev pub spot_of : Point → Spot
spot_of p = record { x = worth p.x; y = worth p.y }

-- Side 1: the exact determinant of three points, in squares of units
abbrev pub determinant : Point → Point → Point → ℤ
determinant p q r = plane.determinant (spot_of p) (spot_of q) (spot_of r)

-- a whole number of units in squares of units
abbrev pub unit : ℤ
unit = pos (2 ^ 1074)
