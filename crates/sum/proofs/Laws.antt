-- The laws of the sum, each file over those above it.
-- which lists are refused
pub mod Refused
-- a sign by its number; what a look decides
pub mod Look
-- a pass over a list from its end
pub mod Backwards
-- the one pass that finds both extremes
pub mod Tally
-- what holds of every entry, and a number of each entry added
pub mod Entries
-- the extremes of a list are what their names say
pub mod Extremes
-- what a verdict says of the counts and the extremes
pub mod Verdict
-- one step of an undecided list
pub mod Step
-- what the code of a step needs and writes
pub mod Stepping
-- a run by its turns, and by the list after n steps
pub mod Runs
-- the loop of a run, and what `run` promises
pub mod Running
-- the exact total, which a step keeps
pub mod Total
-- the sign that is decided is the total's
pub mod Sign
-- the largest power of two that divides every entry
pub mod Grain
-- division rounded up
pub mod RoundUp
-- the ceiling: its two passes, its bounds, and what `ceiling` promises
pub mod Ceiling
-- each step lowers the weight of a list: the ceiling is enough
pub mod Descent
-- how many steps the rule takes, and what a budget makes of them
pub mod Settled
-- the sign that words hold
pub mod Words
-- the plain sum, and what `plain` promises
pub mod Plain
-- the demands, of whatever keeps the promises of `run`, `ceiling` and `plain`: what callers cite
pub mod Calls
