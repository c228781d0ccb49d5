-- What a reader must believe of a plan: docs/RULES.md, section Crease. In order: whose a release is, by its places in the zones; the zones of a plan,
-- its refusals, and the promise; what a refusal says, by what `zone` answers of each zone. Parts is what inner functions find.
pub mod Claim
pub mod Plan
pub mod Reasons
pub mod Parts
