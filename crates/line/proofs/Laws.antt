-- What is known of a line: its digits; that the promises of its calls leave nothing open. And what comes of a line that is read byte by byte:
-- from any point of it, its doubles, a count, counts and doubles, the bytes of its file, the whole of it. Examples are lines whose meaning is
-- computed.
pub mod Digit
pub mod Next
pub mod Read
pub mod Doubles
pub mod Count
pub mod Numbers
pub mod Bytes
pub mod Whole
pub mod Examples
