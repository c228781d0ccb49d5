-- What a reader must believe of a number of a track file.
pub mod Number
