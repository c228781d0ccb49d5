-- The laws of one coordinate of a track file, each file over those above it.
-- the difference of two patterns
pub mod Difference
-- the coordinate that any bytes begin with
pub mod Coordinate
-- a coordinate that is written, and one that was read
pub mod Taken
