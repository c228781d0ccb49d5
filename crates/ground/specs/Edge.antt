-- The edges of a list of corners, whether a point is on one, and how one counts. Values are compared (Zone 8): here they are all there is.
use Rattle.std.specs.Prelude.{Bool, ◌&&◌, ◌||◌, List, [], ◌∷◌, ℤ}
use Rattle.ground.specs.Compare.{at_most, below, is_zero, is_positive, is_negative}
use Rattle.ground.specs.Plane.{Spot, determinant}

pub record Edge : Type 0 where
  pub from : Spot
  pub to : Spot

abbrev pub edge : Spot → Spot → Edge
edge a b = record { from = a; to = b }

-- Zone 2: edge k joins corner k to the corner after it, and the last edge the last corner to corner 0
unfoldable pub edges_from : Spot → Spot → List Spot → List Edge
edges_from first a [] = edge a first ∷ []
edges_from first a (b ∷ rest) = edge a b ∷ edges_from first b rest

unfoldable pub edges_of : List Spot → List Edge
unfolding edges_from
edges_of [] = []
edges_of (a ∷ rest) = edges_from a a rest

-- Side 1: the exact side of a point against an edge
abbrev pub side_of_edge : Edge → Spot → ℤ
side_of_edge e p = determinant e.from e.to p

-- Zone 3: v lies between a and b, which count
abbrev pub between : ℤ → ℤ → ℤ → Bool
between a b v = (at_most a v && at_most v b) || (at_most b v && at_most v a)

-- Zone 3: the point is on the edge: its side is 0 and each coordinate lies between those of the edge's ends, which count
unfoldable pub on_edge : Edge → Spot → Bool
unfolding at_most
on_edge e p =
    is_zero (side_of_edge e p) && (between e.from.x e.to.x p.x && between e.from.y e.to.y p.y)

-- Zone 5: the edge from A to B counts upward: Ay ≤ y < By, and the point's side is +1
unfoldable pub is_up : Edge → Spot → Bool
unfolding at_most below
is_up e p = (at_most e.from.y p.y && below p.y e.to.y) && is_positive (side_of_edge e p)

-- Zone 6: it counts downward: By ≤ y < Ay, and the point's side is -1
unfoldable pub is_down : Edge → Spot → Bool
unfolding at_most below
is_down e p = (at_most e.to.y p.y && below p.y e.from.y) && is_negative (side_of_edge e p)
