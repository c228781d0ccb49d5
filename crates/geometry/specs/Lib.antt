-- What a reader must believe of the side of a point, the zone and the plane: docs/RULES.md, sections Side, Zone and Plane. In order: the exact
-- products of stage 3; the side; the zone; the plane; what their answers say of the points alone. Parts is what inner functions find. Not
-- here: points by what they are worth (`point`), stages 1 and 2 (`side_filter`).
pub mod Product
pub mod Side
pub mod Zone
pub mod Plane
pub mod Reasons
pub mod Parts
