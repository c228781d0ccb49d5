-- The laws of a number of a track file, each file over those above it.
-- a number as it is written
pub mod Written
-- the number that any bytes begin with
pub mod Number
-- the bytes of a number that was read
pub mod Taken
-- the bytes at which a number is refused
pub mod Faults
