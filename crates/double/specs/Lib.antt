-- What a reader must believe of a double. In order: what it is worth, how it is taken apart, and its bit pattern.
pub mod Worth
pub mod Apart
pub mod Pattern
