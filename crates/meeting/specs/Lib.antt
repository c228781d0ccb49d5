-- What a reader must believe of the meeting of a path piece and a crease: docs/RULES.md, section Meeting. In order: what the pieces are worth, and the
-- promise; what a refusal says of the points alone. Parts is what inner functions find. Not here: the four words, over whole numbers (`pieces`).
pub mod Meet
pub mod Reasons
pub mod Parts
