-- What a reader must believe of the desk's answers. In order: the zone, judged from the bytes of its file; the report of the releases. Parts is
-- what inner functions find.
pub mod Zone
pub mod Report
pub mod Parts
