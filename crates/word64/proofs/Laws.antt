-- The laws of words of 64 binary digits.
-- the last word of a product
pub mod Product
-- signed numbers in the machine
pub mod Signed
-- the difference of two words
pub mod Difference
