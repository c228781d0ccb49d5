-- What a reader must believe of one coordinate of a track file. In order: the difference of two patterns, and the coordinate.
pub mod Difference
pub mod Coordinate
