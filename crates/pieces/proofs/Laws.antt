-- The laws of two pieces over whole numbers, each file over those above it.
-- what tests say
pub mod Tests
-- places, and those of a piece by the share of the way
pub mod Places
-- the four words: no two hold; pieces exchanged or turned round, axes exchanged
pub mod Words
-- what two ranges have in common, and that a shared place lies there
pub mod Ranges
-- a point of a piece's line: it lies on the piece by its x, or by its box
pub mod Along
-- two pieces on one line
pub mod Lines
-- two pieces by the sides of the second one's ends
pub mod Sided
-- the ends on opposite sides
pub mod Through
-- a point on an edge, as the zone has it, is a place that lies on it
pub mod Points
-- the word that boxes and sides find is the one that holds; one always does
pub mod Decided
-- the words at work on small numbers
mod Examples
