-- Points with a height: which coordinates are accepted, and what four points are worth (docs/RULES.md, section Plane).
use Rattle.std.specs.Prelude.{ℕ, ◌≡◌, Bool, true, T, ℤ, List, Float, Result}
use Rattle.std.specs.Float.{binary64}
use Rattle.std.specs.Float.Ieee.{fits}
use Rattle.ground.specs.Space.{HighSpot}
use Rattle.ground.specs.Space as space
use Rattle.double.specs.Worth.{worth}
use Rattle.refusal.specs.declared.Refusal.{Refusal}
use Rattle.refusal.specs.Outcome.{Outcome, not_accepted, outcome}
use Rattle.refusal.specs.Search.{passing_from}
use Rattle.point.specs.Accepted.{accepted_within}
use Rattle.point.specs.declared.HighPoint.{HighPoint}

-- Plane 2: the 300 of points with a height
abbrev pub high_reach : ℕ
high_reach = 300

abbrev pub high_accepted : Float → Bool
high_accepted x = accepted_within high_reach x

-- the promise: whether it is accepted
abbrev pub AcceptedHighSays : Float → Bool → Type 0
AcceptedHighSays x r = r ≡ high_accepted x

-- Plane 2 and Refusals 3: at the first coordinate that is not accepted, of a list whose places begin at 0; otherwise the answer
abbrev pub high_accepting : {A : Type 0} → List Float → A → Outcome A
high_accepting xs answer = passing_from high_accepted not_accepted 0 xs answer

-- the promise: that refusal, or nothing
abbrev pub AllAcceptedHighSays : List Float → Result Unit Refusal → Type 0
AllAcceptedHighSays xs r = outcome (λ u. u) r ≡ high_accepting xs tt

-- all coordinates of a point are accepted
pub record HighAccepted (p : HighPoint) : Type 0 where
  pub x : high_accepted p.x ≡ true
  pub y : high_accepted p.y ≡ true
  pub height : high_accepted p.height ≡ true

-- what a point that is handed in is made of: the format holds its coordinates
pub record HighOfDoubles (p : HighPoint) : Type 0 where
  pub x : T (fits binary64 p.x)
  pub y : T (fits binary64 p.y)
  pub height : T (fits binary64 p.height)

-- Plane 1: a point by what its coordinates are worth, in units
abbrev pub high_spot_of : HighPoint → HighSpot
high_spot_of p = record { x = worth p.x; y = worth p.y; height = worth p.height }

-- Plane 1: the exact determinant of four points, in cubes of units
abbrev pub high_determinant : HighPoint → HighPoint → HighPoint → HighPoint → ℤ
high_determinant p q r s = space.determinant (high_spot_of p) (high_spot_of q) (high_spot_of r) (high_spot_of s)
