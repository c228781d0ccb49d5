-- The laws of accepted coordinates and of points of them, and comparisons of doubles by what they are worth.
pub mod Accepted
pub mod Within
pub mod Worths
