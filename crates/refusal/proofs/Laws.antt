-- The laws of answers and refusals, each file over those above it.
-- a refusal is known by its number and its place, and is no answer
pub mod Outcome
-- the search for the first entry that fails a test
pub mod Search
-- refusals judged one after the other
pub mod Judged
