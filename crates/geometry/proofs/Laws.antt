-- The laws of the side of a point, of the zone and of the plane, each file over those above it.
-- a list of coordinates: what refuses it
pub mod Accepting
-- the exact product, and for whom it holds
pub mod Product
-- the roundoff as the code finds it
pub mod Cut
-- what owning a point tells
pub mod Owned
-- a run to its end: it decides
pub mod ToTheEnd
-- the twelve summands: their total is the determinant
pub mod Summands
-- stage 3 answers, and with the determinant's sign
pub mod Exact
-- the side: its sign, stage and steps, its refusals, and no two results
pub mod Side
-- the points of a flat list
pub mod Corners
-- the edges of a zone, and one edge and a point
pub mod Edges
-- the walk and the count over all edges, and the refusals of a zone
pub mod Zone
-- what a side and a zone can come to, by cases
pub mod Outcomes
-- a zone that is answered
pub mod Answered
-- where a point lies: off every edge, or on a first one
pub mod Located
-- the demands, of whatever keeps the promises of `side` and `zone`: what callers cite
pub mod Calls
-- the same of `sign`
pub mod SignCalls
-- and that accepted points are not refused it
pub mod SignAnswered
-- products of three coordinates, each opened into four summands
pub mod Opened
-- the 96 summands of four points: their total is the determinant
pub mod Space
-- the demands, of whatever keeps the promise of `plane`: what callers cite
pub mod PlaneCalls
