-- What a reader must believe of a total in words: docs/RULES.md, section Plain. In order: words and the number that they hold; one double
-- more. Parts is what inner functions promise.
pub mod Words
pub mod Add
pub mod Parts
