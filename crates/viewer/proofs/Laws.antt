-- The laws of the viewer's entries, each file over those above it.
-- eight bytes of a list, and the doubles of bytes one by one
pub mod Bytes
-- what an entry answers: its refusals in their order, every number that it can be, and no two results
pub mod Entries
