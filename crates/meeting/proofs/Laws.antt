-- The laws of a meeting, each file over those above it.
-- ranges and tests of doubles, by what they are worth
pub mod Worths
-- what the inner functions find, over whole numbers
pub mod Found
-- the demands, of whatever keeps the promise of `meet`: what callers cite
pub mod Calls
