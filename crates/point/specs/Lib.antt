-- What a reader must believe of a coordinate, of a point and of a point with a height. Parts is what an inner function finds.
pub mod Accepted
pub mod Spot
pub mod High
pub mod Parts
