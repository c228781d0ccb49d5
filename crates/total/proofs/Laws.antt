-- The laws of a total in words, each file over those above it.
-- what words are worth, and the words of a number
pub mod Words
-- words that change: carry, borrow, a double more
pub mod Changed
-- what `add` promises
pub mod Add
