-- What a reader must believe of two pieces over whole numbers: docs/RULES.md, section Meeting. In order: fractions, and places of the plane; where
-- a place lies on a piece, and the four words for what two pieces share. Parts is how the code finds the word.
pub mod Place
pub mod Meeting
pub mod Parts
