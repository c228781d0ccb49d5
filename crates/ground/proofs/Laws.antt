-- The laws of the rules over whole numbers, each file over those above it.
-- the tests of order and sign, against the order of `whole`
pub mod Compare
-- an edge turned round: the same points on it, up where the other counts down; none counts both ways
pub mod Edges
-- whole numbers that are odd, odd or 0, and from -1 to 1
pub mod Odd
-- what is made of a tally off the border: its total, and the place by it
pub mod Rule
-- tallies of lists of edges, and the place by them; on the border where an edge has the point
pub mod Tally
-- why a point has its place: the entries of edges that count, their numbers and their total
pub mod Reason
-- the list of corners begun at another corner, and backwards: the same place, and the same total or its negative
pub mod Listing
-- whole numbers alone: heights over a point with weights that balance, and shares of a way
pub mod Weights
-- no point is inside both of two triangles on the two sides of a shared edge
pub mod Triangles
-- two zones that share an edge or a chain of edges, and their joint outline
pub mod Joined
-- a triangle by sides: inside is where all three are above 0
pub mod Sides
-- the rule by odd or even, and where it says the same: in every triangle among others
pub mod Parity
-- strictly convex zones: no height is passed upward twice, and so the rule by odd or even says the same
pub mod Convex
-- a list that passes a corner twice, and a list of corners twice over
pub mod Loops
-- four corners whose line crosses itself: both loops are inside
pub mod Eight
-- the determinant of four points with heights: the 24 products, two points exchanged or equal, equal heights
pub mod Space
-- the rules at work: a square, a figure of eight, a star, two zones that share a chain, and four points with heights
mod Examples
