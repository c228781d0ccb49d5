-- Laws of whole numbers. Each file is over those above it.

-- a whole number as a difference of two naturals
pub mod Parts
-- identities by normal forms: `solve`
pub mod Ring
-- identities and inequalities in one line: `ints`
pub mod Linear
-- when `sgn` has each of its values; of a product, of a difference
pub mod Sign
-- the order is total; products of positive numbers; a positive factor left out
pub mod Order
-- `ints` and `solve` in use: the determinant of three points
mod Examples
