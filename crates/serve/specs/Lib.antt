-- What a reader must believe of the desk: the text of what is told, and its whole output; the reasons of all places. Parts is what inner functions
-- promise.
pub mod Text
pub mod Printed
pub mod Reasons
pub mod Parts
