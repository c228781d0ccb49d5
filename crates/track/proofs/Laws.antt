-- The laws of the track file, each file over those above it.
-- a number that is written by stores
pub mod Put
-- the coordinates of a file up to what stops a reader
pub mod Scan
-- the bytes of a list of points
pub mod File
-- what the writer answers
pub mod Write
-- what the reader answers
pub mod Read
-- which refusals the reader gives, and the bytes at a 6 or 7
pub mod Refusals
-- the points of an accepted file
pub mod Points
-- reading what was written, and writing what was read
pub mod RoundTrip
-- the first bytes of a file
pub mod First
-- what the two public calls promise together
pub mod Calls
