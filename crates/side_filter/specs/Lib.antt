-- What a reader must believe of the filter: docs/RULES.md, section Side, stages 1 and 2.
pub mod Filter
