-- What a reader must believe of a line of questions: its numbers, its first word, what a whole line asks. Next is what a byte more does to
-- a line that is being read, and Read what comes of its bytes one after the other: that this is what the whole line asks is a law
-- (Laws.Whole).
pub mod Numeral
pub mod Word
pub mod Line
pub mod Next
pub mod Read
