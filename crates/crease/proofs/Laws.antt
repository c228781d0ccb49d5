-- The laws of a plan, each file over those above it.
-- claims by the places alone: one holds, and no other
pub mod Claims
-- which of the four a claim is, in whatever order the zones come
pub mod Words
-- the zones one after the other: what is left of the list, and the walk
pub mod Zones
-- what keeps the promise of `plan`
pub mod Plan
-- what a judgement tells, by the definition
pub mod Told
-- the demands, of whatever keeps the promise of `plan`: what callers cite
pub mod Calls
-- some plans, computed
pub mod Examples
