-- What a reader must believe of the track file. In order: the file of a list of points, what the writer answers, the coordinates
-- of a file up to what stops a reader, what the reader answers. Not here: one number (crate number), one coordinate (crate coordinate).
-- Parts is what inner functions find.
pub mod File
pub mod Write
pub mod Scan
pub mod Read
pub mod Parts
