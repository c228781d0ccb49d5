-- The laws of the desk's text, each file over those above it.
-- a number in decimal
pub mod Decimal
-- a text that is put together
pub mod Text
-- what is printed, at each end of the program
pub mod Printed
-- why each release has its place, in words
pub mod Reasons
-- the pieces that say so, one by one
pub mod Explained
