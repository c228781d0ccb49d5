-- What a reader must believe of a sum: docs/RULES.md, sections Sum, Ceiling and Plain. In order: the list's limit and the ceiling's
-- divisor; the refusals; the exact total and the sign; the look; the step; the run; the ceiling; the plain sum. Tally, Words and Parts are
-- what inner functions find.
pub mod Limit
pub mod Refused
pub mod Total
pub mod Look
pub mod Step
pub mod Run
pub mod Ceiling
pub mod Plain
pub mod Tally
pub mod Words
pub mod Parts
