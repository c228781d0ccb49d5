-- The laws of the answers, each file over those above it.
-- the zone: equal by value, another list of its corners, a shared edge, two triangles
pub mod Zones
-- a list of the same corners is answered where one is
pub mod Relisted
-- two zones that share an edge or a chain of edges, and their joint outline
pub mod Joined
-- a zone that passes a corner twice, and one whose corners are listed twice over
pub mod Loops
-- the answers by odd or even, as they were before, and where they are the same
pub mod Parity
-- the plane: equal by value, two points exchanged or equal, equal heights, a ball above or below
pub mod Planes
-- the meeting of two pieces: equal by value, exchanged, turned round
pub mod Meetings
-- a plan of zones, for the reel: another order, shared edges, a release that is alone
pub mod Crease
