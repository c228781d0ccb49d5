-- One edge and a point. In order: points of finite doubles; whether the point is a corner of the edge.
-- Not here: how the edge counts (`geometry` Edges); all edges (`Listing`). Assumes nothing.
use mathlib.Core.Path.{◌≡◌, ap₂}
use mathlib.Core.Bool.{Bool, ◌&&◌, ◌||◌}
use Rattle.ground.specs.Reason.{same_spot, is_corner}
use Rattle.point.specs.declared.Point.{Point}
use Rattle.point.specs.Spot.{spot_of}
use Rattle.point.proofs.Laws.Worths.{RealPoint, accepted_point, eq_worth}
use Rattle.reason.specs.Parts.{edge_from, Held, same_by}

-- a point that is held is one of finite doubles
pub real_of : (p : Point) → Held p → RealPoint p
real_of p h = accepted_point p h.of_doubles h.accepted

-- ---- whether the point is a corner
module _ (a b p : Point) (A : RealPoint a) (B : RealPoint b) (P : RealPoint p) where
  pub corner_worth : (same_by a p || same_by b p) ≡ is_corner (edge_from a b) (spot_of p)
  unfolding is_corner
  corner_worth = ap₂ (λ (s t : Bool). s || t) (same a A) (same b B)
    where
      same : (c : Point) → RealPoint c → same_by c p ≡ same_spot (spot_of c) (spot_of p)
      same c C = ap₂ (λ (s t : Bool). s && t) (eq_worth c.x p.x C.x P.x) (eq_worth c.y p.y C.y P.y)
