-- What turns to the left: zones that are strictly convex and go round once, and two edges that cross each other.
use Rattle.std.specs.Prelude.{List, [], ◌∷◌, reverse, ◌⊎◌, pos}
use Rattle.whole.specs.Order.{◌<ᶻ◌}
use Rattle.ground.specs.Plane.{Spot, determinant}

-- Side 1: c is to the left of the line from a to b
abbrev pub LeftOf : Spot → Spot → Spot → Type 0
LeftOf a b c = pos 0 <ᶻ determinant a b c

-- each of a list
abbrev pub All : (Spot → Type 0) → List Spot → Type 0
All P [] = Unit
All P (c ∷ cs) = P c × All P cs

-- a and any two of a list, in its order, turn to the left
abbrev pub Fan : Spot → List Spot → Type 0
Fan a [] = Unit
Fan a (b ∷ cs) = All (LeftOf a b) cs × Fan a cs

-- strictly convex, once round, counter-clockwise: any three corners, in the order of the list, turn to the left
abbrev pub Round : List Spot → Type 0
Round [] = Unit
Round (a ∷ cs) = Fan a cs × Round cs

-- Zone 11: the same, either way round
abbrev pub Convex : List Spot → Type 0
Convex cs = Round cs ⊎ Round (reverse cs)

-- Zone 10: the edges from a to b and from c to d cross each other: each has the other's ends on its two sides, and the first has c on its left
pub record Crossed (a b c d : Spot) : Type 0 where
  pub start : LeftOf a b c
  pub end : LeftOf b a d
  pub other_start : LeftOf d c a
  pub other_end : LeftOf c d b
