-- The rules over whole numbers, free of doubles and of the code's types: docs/RULES.md, sections Side, Zone, Reason and Plane. In order: which
-- whole number is less; points of the ground plan and the determinant of three; edges, and how one counts; the zone; why a point has its place; the rule
-- that the zone had before; other lists of its corners, and zones joined; what turns to the left; points with a height, and the determinant of four.
pub mod Compare
pub mod Plane
pub mod Edge
pub mod Zone
pub mod Reason
pub mod Parity
pub mod Listing
pub mod Convex
pub mod Space
