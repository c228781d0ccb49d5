-- The laws of the desk's answers, each file over those above it.
-- the zone, judged from its file
pub mod Zone
-- the codes of releases
pub mod Codes
-- the report of the releases
pub mod Report
-- what the two public calls promise together
pub mod Calls
