-- How every call answers or refuses: docs/RULES.md, sections Refusals and Order. In order: the outcome of a call and the table's numbers; the
-- first entry of a list that fails a test; refusals judged one after the other, and what a call leaves in lent memory.
pub mod Outcome
pub mod Search
pub mod Judged
