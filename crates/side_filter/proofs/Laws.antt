-- The laws of the filter of a side, each file over those above it.
-- a whole number as a difference of two naturals
pub mod By
-- the filter of a difference of two products, in numbers
pub mod Numbers
-- the greater of two magnitudes, as a double
pub mod Greater
-- the filter on four rounded differences, at the floats
pub mod Threshold
-- the filter decides the sign of the side's determinant
pub mod Orientation
-- stages 1 and 2 never answer wrongly, and no two results satisfy the promise
pub mod Filter
-- real doubles, worked through
mod Examples
