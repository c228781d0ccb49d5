-- Meeting 10: how the word is found, by comparisons and sides: believed by no reader, since a law says that it is the one that holds
-- (Laws.Decided). In order: what two ranges have in common; how two points lie by a line; the word.
use Rattle.std.specs.Prelude.{zero, suc, Bool, cond, ◌&&◌, ℤ, pos, negsuc}
use Rattle.ground.specs.Compare.{at_most, below, equal, is_zero}
use Rattle.ground.specs.Plane.{Spot}
use Rattle.ground.specs.Edge.{Edge, side_of_edge}
use Rattle.pieces.specs.Meeting.{Meeting, apart, touching, crossing, overlapping}

-- ---- ranges

-- from the least to the most, which count; empty where the most is less
pub record Range : Type 0 where
  pub least : ℤ
  pub most : ℤ

abbrev pub range : ℤ → ℤ → Range
range l m = record { least = l; most = m }

unfoldable pub lesser : ℤ → ℤ → ℤ
unfolding below
lesser a b = cond (below b a) b a

unfoldable pub greater : ℤ → ℤ → ℤ
unfolding below
greater a b = cond (below a b) b a

-- what the range of a and b has in common with that of c and d
abbrev pub common : ℤ → ℤ → ℤ → ℤ → Range
common a b c d = range (greater (lesser a b) (lesser c d)) (lesser (greater a b) (greater c d))

abbrev pub common_x : Edge → Edge → Range
common_x a b = common a.from.x a.to.x b.from.x b.to.x

abbrev pub common_y : Edge → Edge → Range
common_y a b = common a.from.y a.to.y b.from.y b.to.y

abbrev pub is_empty : Range → Bool
is_empty r = below r.most r.least

-- more than one number
abbrev pub is_long : Range → Bool
is_long r = below r.least r.most

abbrev pub is_in : Range → ℤ → Bool
is_in r v = at_most r.least v && at_most v r.most

-- ---- two points by a line

-- both beside it and on one side; on opposite sides; only the first on it; only the second; both
pub data Sides : Type 0 where
  one_side : Sides
  opposite : Sides
  first_on : Sides
  second_on : Sides
  both_on : Sides

abbrev pub sides_of : ℤ → ℤ → Sides
sides_of (pos zero) (pos zero) = both_on
sides_of (pos zero) (pos (suc n)) = first_on
sides_of (pos zero) (negsuc n) = first_on
sides_of (pos (suc m)) (pos zero) = second_on
sides_of (pos (suc m)) (pos (suc n)) = one_side
sides_of (pos (suc m)) (negsuc n) = opposite
sides_of (negsuc m) (pos zero) = second_on
sides_of (negsuc m) (pos (suc n)) = opposite
sides_of (negsuc m) (negsuc n) = one_side

-- ---- the word

-- all on one line, where something is common
abbrev pub on_line : Range → Range → Meeting
on_line x y = cond (is_long x) overlapping (cond (is_long y) overlapping touching)

-- only this end of a piece on the other's line
abbrev pub by_end : Range → Range → Spot → Meeting
by_end x y p = cond (is_in x p.x && is_in y p.y) touching apart

-- the ends of the second piece on opposite sides of the first: by how those of the first lie by the second
abbrev pub by_far : Sides → Meeting
by_far one_side = apart
by_far opposite = crossing
by_far first_on = touching
by_far second_on = touching
by_far both_on = touching

abbrev pub through : Edge → Edge → Meeting
through a b = by_far (sides_of (side_of_edge b a.from) (side_of_edge b a.to))

-- .. and what is told before the second of these is known: by the side that the second piece begins on, and that of the first one's first end.
-- Where the two are alike, the first one's second end has the same; `far` is what all tell together
abbrev pub by_near : Sides → Meeting → Meeting
by_near one_side far = apart
by_near opposite far = far
by_near first_on far = touching
by_near second_on far = touching
by_near both_on far = touching

-- two pieces that have a length: by how the second one's ends lie by the first one's line
abbrev pub by_sides : Sides → Edge → Edge → Meeting
by_sides one_side a b = apart
by_sides opposite a b = through a b
by_sides first_on a b = by_end (common_x a b) (common_y a b) b.from
by_sides second_on a b = by_end (common_x a b) (common_y a b) b.to
by_sides both_on a b = on_line (common_x a b) (common_y a b)

-- a piece of equal ends
abbrev pub is_dot : Edge → Bool
is_dot a = equal a.from.x a.to.x && equal a.from.y a.to.y

-- a point, in the box of a piece: by its side
abbrev pub of_dot : Edge → Spot → Meeting
of_dot a p = cond (is_zero (side_of_edge a p)) touching apart

abbrev pub of_long : Edge → Edge → Meeting
of_long a b = by_sides (sides_of (side_of_edge a b.from) (side_of_edge a b.to)) a b

-- the boxes have something in common
abbrev pub in_boxes : Edge → Edge → Meeting
in_boxes a b = cond (is_dot a) (cond (is_dot b) touching (of_dot b a.from)) (cond (is_dot b) (of_dot a b.from) (of_long a b))

unfoldable pub decided : Edge → Edge → Meeting
unfolding at_most below equal lesser greater
decided a b = cond (is_empty (common_x a b)) apart (cond (is_empty (common_y a b)) apart (in_boxes a b))
