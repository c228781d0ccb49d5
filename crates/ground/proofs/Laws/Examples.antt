-- The rules at work on small numbers: checked examples, cited by no law. In order: a square, the square listed twice, and why a point has its place in them;
-- a figure of eight; a star; two zones that share a chain of two edges, and their joint outline, with a point of each; four points with heights.
-- Assumes nothing.
use mathlib.Core.Path.{◌≡◌, refl}
use mathlib.Core.Bool.{true, false}
use mathlib.Core.List.{List, [], ◌∷◌, ◌++◌}
use mathlib.Core.Logic.{inl}
use lib.IntN.{ℤ, pos, negsuc}
use Rattle.whole.specs.Order.{◌<ᶻ◌}
use Rattle.ground.specs.Compare.{at_most, below, equal}
use Rattle.ground.specs.Plane.{Spot}
use Rattle.ground.specs.Edge.{edges_from, edges_of, on_edge, is_up, is_down}
use Rattle.ground.specs.Zone.{count_of, tally_of, total_of, Lies, outside, border, inside, off_border, walk, place_of}
use Rattle.ground.specs.Reason.{up, down, Entry, entry, list_from, is_corner, Reason, on_border, is_inside, is_outside, reason_of}
use Rattle.ground.specs.Parity.{by_parity, place_by_parity}
use Rattle.ground.specs.Listing.{total_in, Joined}
use Rattle.ground.specs.Convex.{Convex, Crossed}
use Rattle.ground.specs.Space.{HighSpot, determinant}
use Rattle.ground.proofs.Laws.Joined.{joined_opposite, joined_alike}

abbrev spot : ℤ → ℤ → Spot
spot x y = record { x = x; y = y }

-- ---- a square of side 4
abbrev square : List Spot
square = spot (pos 0) (pos 0) ∷ spot (pos 4) (pos 0) ∷ spot (pos 4) (pos 4) ∷ spot (pos 0) (pos 4) ∷ []

abbrev lies_in : List Spot → ℤ → ℤ → Lies
lies_in cs x y = place_of (edges_of cs) (spot x y)

middle : lies_in square (pos 1) (pos 2) ≡ inside
unfolding place_of walk off_border tally_of count_of is_up is_down on_edge edges_of edges_from at_most below
middle = refl

beside : lies_in square (negsuc 0) (pos 2) ≡ outside
unfolding place_of walk off_border tally_of count_of is_up is_down on_edge edges_of edges_from at_most below
beside = refl

-- a corner is on two edges: the lower number is answered
corner : lies_in square (pos 0) (pos 0) ≡ border 0
unfolding place_of walk off_border tally_of count_of is_up is_down on_edge edges_of edges_from at_most below
corner = refl

last_edge : lies_in square (pos 0) (pos 3) ≡ border 3
unfolding place_of walk off_border tally_of count_of is_up is_down on_edge edges_of edges_from at_most below
last_edge = refl

-- listed twice: gone round twice; once round and once back: not gone round at all
twice : lies_in (square ++ square) (pos 2) (pos 2) ≡ inside
unfolding place_of walk off_border tally_of count_of is_up is_down on_edge edges_of edges_from at_most below
twice = refl

there_and_back : lies_in (square ++ spot (pos 0) (pos 0) ∷ spot (pos 0) (pos 4) ∷ spot (pos 4) (pos 4) ∷ spot (pos 4) (pos 0) ∷ []) (pos 2) (pos 2)
    ≡ outside
unfolding place_of walk off_border tally_of count_of is_up is_down on_edge edges_of edges_from at_most below
there_and_back = refl

square_convex : Convex square
square_convex = inl (((left, (left, tt)), ((left, tt), (tt, tt))), (((left, tt), (tt, tt)), ((tt, tt), (tt, tt))))
  where
    left : pos 0 <ᶻ pos 16
    left = record { lt = tt }

-- ---- why a point has its place in them
abbrev why_in : List Spot → ℤ → ℤ → Reason (List Entry)
why_in cs x y = reason_of (edges_of cs) (spot x y)

square_reasons : (why_in square (pos 2) (pos 2) ≡ is_inside (pos 1) (entry 1 up ∷ []))
    × (why_in square (pos 4) (pos 1) ≡ on_border 1 false) × (why_in square (pos 4) (pos 4) ≡ on_border 1 true)
    × (why_in square (pos 0) (pos 0) ≡ on_border 0 true)
    × (why_in square (negsuc 0) (pos 2) ≡ is_outside (pos 0) (entry 1 up ∷ entry 3 down ∷ [])) × (why_in square (pos 5) (pos 5) ≡ is_outside (pos 0) [])
unfolding reason_of place_of walk off_border tally_of total_of count_of is_up is_down on_edge is_corner list_from edges_of edges_from at_most below equal
square_reasons = (refl, refl, refl, refl, refl, refl)

twice_reason : why_in (square ++ square) (pos 2) (pos 2) ≡ is_inside (pos 2) (entry 1 up ∷ entry 5 up ∷ [])
unfolding reason_of place_of walk off_border tally_of total_of count_of is_up is_down on_edge is_corner list_from edges_of edges_from at_most below equal
twice_reason = refl

-- ---- a figure of eight, whose line crosses itself at (2, 2): the loop on the right is gone round clockwise, the one on the left the other way
abbrev eight : List Spot
eight = spot (pos 0) (pos 0) ∷ spot (pos 4) (pos 4) ∷ spot (pos 4) (pos 0) ∷ spot (pos 0) (pos 4) ∷ []

both_loops : (lies_in eight (pos 1) (pos 2) ≡ inside) × (lies_in eight (pos 3) (pos 2) ≡ inside) × (lies_in eight (pos 2) (pos 1) ≡ outside)
unfolding place_of walk off_border tally_of count_of is_up is_down on_edge edges_of edges_from at_most below
both_loops = (refl, refl, refl)

-- listed backwards its edges cross as `Crossed` has it
eight_crossed : Crossed (spot (pos 0) (pos 4)) (spot (pos 4) (pos 0)) (spot (pos 4) (pos 4)) (spot (pos 0) (pos 0))
eight_crossed = record { start = record { lt = tt }; end = record { lt = tt }; other_start = record { lt = tt }; other_end = record { lt = tt } }

eight_totals : (total_in eight (spot (pos 1) (pos 2)) ≡ pos 1) × (total_in eight (spot (pos 3) (pos 2)) ≡ negsuc 0)
unfolding total_of tally_of count_of is_up is_down edges_of edges_from at_most below
eight_totals = (refl, refl)

-- ---- a star of five points in one line: its middle, gone round twice, was outside by odd or even
abbrev star : List Spot
star = spot (pos 0) (pos 6) ∷ spot (pos 10) (pos 6) ∷ spot (pos 2) (pos 0) ∷ spot (pos 5) (pos 10) ∷ spot (pos 8) (pos 0) ∷ []

star_middle : (lies_in star (pos 5) (pos 4) ≡ inside) × (place_by_parity (edges_of star) (spot (pos 5) (pos 4)) ≡ outside)
unfolding place_of walk off_border tally_of count_of is_up is_down on_edge edges_of edges_from at_most below place_by_parity by_parity
star_middle = (refl, refl)

star_point : (lies_in star (pos 5) (pos 8) ≡ inside) × (place_by_parity (edges_of star) (spot (pos 5) (pos 8)) ≡ inside)
unfolding place_of walk off_border tally_of count_of is_up is_down on_edge edges_of edges_from at_most below place_by_parity by_parity
star_point = (refl, refl)

-- ---- two zones that share the way from (0, 0) over (2, 1) to (4, 0)
abbrev upper : List Spot
upper = spot (pos 0) (pos 0) ∷ spot (pos 2) (pos 1) ∷ spot (pos 4) (pos 0) ∷ spot (pos 4) (pos 4) ∷ spot (pos 0) (pos 4) ∷ []

abbrev lower : List Spot
lower = spot (pos 4) (pos 0) ∷ spot (pos 2) (pos 1) ∷ spot (pos 0) (pos 0) ∷ spot (pos 2) (negsuc 3) ∷ []

abbrev outline : List Spot
outline = spot (pos 4) (pos 0) ∷ spot (pos 4) (pos 4) ∷ spot (pos 0) (pos 4) ∷ spot (pos 0) (pos 0) ∷ spot (pos 2) (negsuc 3) ∷ []

halves : Joined upper lower outline
halves =
    joined_opposite (spot (pos 0) (pos 0)) (spot (pos 4) (pos 0)) (spot (pos 2) (pos 1) ∷ [])
    (spot (pos 4) (pos 4) ∷ spot (pos 0) (pos 4) ∷ []) (spot (pos 2) (negsuc 3) ∷ [])

-- the same lower zone from (0, 0) along the chain
halves_alike : Joined upper
    (spot (pos 0) (pos 0) ∷ spot (pos 2) (pos 1) ∷ spot (pos 4) (pos 0) ∷ spot (pos 2) (negsuc 3) ∷ []) outline
halves_alike =
    joined_alike (spot (pos 0) (pos 0)) (spot (pos 4) (pos 0)) (spot (pos 2) (pos 1) ∷ [])
    (spot (pos 4) (pos 4) ∷ spot (pos 0) (pos 4) ∷ []) (spot (pos 2) (negsuc 3) ∷ [])

in_upper : (lies_in upper (pos 2) (pos 2) ≡ inside) × (lies_in lower (pos 2) (pos 2) ≡ outside) × (lies_in outline (pos 2) (pos 2) ≡ inside)
unfolding place_of walk off_border tally_of count_of is_up is_down on_edge edges_of edges_from at_most below
in_upper = (refl, refl, refl)

in_lower : (lies_in upper (pos 2) (pos 0) ≡ outside) × (lies_in lower (pos 2) (pos 0) ≡ inside) × (lies_in outline (pos 2) (pos 0) ≡ inside)
unfolding place_of walk off_border tally_of count_of is_up is_down on_edge edges_of edges_from at_most below
in_lower = (refl, refl, refl)

-- on the chain: on both borders, and inside the outline
on_chain : (lies_in upper (pos 2) (pos 1) ≡ border 0) × (lies_in lower (pos 2) (pos 1) ≡ border 0) × (lies_in outline (pos 2) (pos 1) ≡ inside)
unfolding place_of walk off_border tally_of count_of is_up is_down on_edge edges_of edges_from at_most below
on_chain = (refl, refl, refl)

-- ---- four points with heights
abbrev high : ℤ → ℤ → ℤ → HighSpot
high x y height = record { x = x; y = y; height = height }

-- the origin and the three axes
axes : determinant (high (pos 0) (pos 0) (pos 0)) (high (pos 1) (pos 0) (pos 0)) (high (pos 0) (pos 1) (pos 0))
    (high (pos 0) (pos 0) (pos 1)) ≡ negsuc 0
axes = refl

-- (2, -3, 7), (5, 1, -4), (-6, 8, 9), (3, -9, -2): the value is of another program, which eliminates by rows
known_value : determinant (high (pos 2) (negsuc 2) (pos 7)) (high (pos 5) (pos 1) (negsuc 3)) (high (negsuc 5) (pos 8) (pos 9))
    (high (pos 3) (negsuc 8) (negsuc 1)) ≡ pos 948
known_value = refl

-- the first and the last exchanged
outside_exchanged : determinant (high (pos 3) (negsuc 8) (negsuc 1)) (high (pos 5) (pos 1) (negsuc 3)) (high (negsuc 5) (pos 8) (pos 9))
    (high (pos 2) (negsuc 2) (pos 7)) ≡ negsuc 947
outside_exchanged = refl
