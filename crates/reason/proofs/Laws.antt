-- The laws of a reason, each file over those above it.
-- one edge: its corners, by comparisons of doubles
pub mod Crossing
-- all edges: the entries of those that count, one by one
pub mod Listing
-- entries as bytes: which edges they are, that they rise, and their total
pub mod Entries
-- what keeps the promise of `why`
pub mod Why
-- what an answer and a refusal tell, by the definition
pub mod Told
-- the demands, of whatever keeps the promise of `why`: what callers cite
pub mod Calls
