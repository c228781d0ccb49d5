-- What is known of bytes that were read or written: where the reader or the writer knows them.
pub mod Moved
