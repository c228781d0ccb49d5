-- Points whose coordinates lie within the reach k, and an accepted point is one. In order: points of the ground plan; points with a height.
-- Assumes nothing.
use mathlib.Core.Path.{◌≡◌}
use mathlib.Core.Bool.{true}
use Prim.Native.Nat.{ℕ}
use lib.Dec.{T}
use lib.Ieee.{Float, binary64, fits}
use Rattle.double.proofs.Laws.Sized.{Reach, reach_of}
use Rattle.point.specs.declared.Point.{Point}
use Rattle.point.specs.declared.HighPoint.{HighPoint}
use Rattle.point.specs.Accepted.{accepted_within, reach, Accepted}
use Rattle.point.specs.High.{high_reach, HighAccepted, HighOfDoubles}
use Rattle.point.proofs.Laws.Accepted.{accepted_real, accepted_range}

accepted_reach : (k : ℕ) (x : Float) → T (fits binary64 x) → accepted_within k x ≡ true → Reach k x
accepted_reach k x t a = reach_of k x (accepted_real k x t a) (accepted_range k x a)

-- both coordinates of a point are finite doubles, each a zero or of a magnitude from 2 ^ -k to 2 ^ k
pub record Within (k : ℕ) (p : Point) : Type 0 where
  pub x : Reach k p.x
  pub y : Reach k p.y

pub accepted_within_lem : (p : Point) → T (fits binary64 p.x) → T (fits binary64 p.y) → Accepted p → Within reach p
accepted_within_lem p s t a = record { x = accepted_reach reach p.x s a.x; y = accepted_reach reach p.y t a.y }

-- and all three of a point with a height
pub record HighWithin (k : ℕ) (p : HighPoint) : Type 0 where
  pub x : Reach k p.x
  pub y : Reach k p.y
  pub height : Reach k p.height

pub high_accepted_within : (p : HighPoint) → HighOfDoubles p → HighAccepted p → HighWithin high_reach p
high_accepted_within p d a = record {
  x = accepted_reach high_reach p.x d.x a.x;
  y = accepted_reach high_reach p.y d.y a.y;
  height = accepted_reach high_reach p.height d.height a.height;
}
