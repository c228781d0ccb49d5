-- What a reader must believe of the viewer's entries: docs/RULES.md, section Viewer. In order: doubles from bytes; the two entries.
pub mod Bytes
pub mod Entries
