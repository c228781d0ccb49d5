-- The laws of doubles, each file over those above it. A double is handled as a whole number of units, by its part on either side of 0.
-- binary digits of whole numbers: how many, how many are dropped, which numbers have p of them
pub mod Digits
-- a whole number rounded to p digits, ties to even
pub mod Rounding
-- a value of a format in whole units, n units as a value
pub mod Units
-- less, equal and at most, in units
pub mod Compare
-- what a double is worth in ℤ, and the double of a given worth
pub mod Worth
-- sum, negation and difference, in units
pub mod Sum
-- sums and differences by the part of either sign, for a proof that serves both
pub mod Signed
-- products that are whole numbers of units
pub mod Multiply
-- which zero a sum of 0 is
pub mod Zero
-- the difference of two whole numbers of p digits, rounded, and its roundoff
pub mod Difference
-- the exact step: a rounded sum of two values of unlike sign, and its roundoff
pub mod Step
-- a value against a count times another, rounded
pub mod Decision
-- grains and bounds of doubles, kept by differences and products
pub mod Sized
-- negations, exactly: of a factor, of what is worth, and as 0.0 - x
pub mod Negated
-- the double of a bit pattern
pub mod Pattern
-- a double taken apart
pub mod Apart
-- a whole number times powers of two, as a double
pub mod Made
-- what a product of two significands, rounded to 53 digits, lacks, in whole numbers
pub mod Lacking
-- the exact product: the rounded product, and what it lacks, as a double
pub mod ExactProduct
-- the same from significands and exponents
pub mod LastPlace
-- what callers of the exact product cite: for whom it holds, and how large the roundoff is
pub mod Roundoff
-- real doubles, worked through
mod Examples
