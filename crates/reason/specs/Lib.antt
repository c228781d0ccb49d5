-- What a reader must believe of the reason of a place: docs/RULES.md, section Reason. In order: the reason for corners that are lent as doubles, its
-- entries as they are handed over, and the promise; what an answer says of the zone and the point alone. Parts is what inner functions find. Not here:
-- the rule itself, over whole numbers (`ground`).
pub mod Why
pub mod Reasons
pub mod Parts
