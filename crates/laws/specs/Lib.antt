-- What a reader must believe of these laws beyond `ground`, `geometry`, `pieces`, `meeting` and `crease`: corners as they are lent; the places by the
-- rule that was in force before; a piece turned round; plans of zones given one by one, and a shared edge.
pub mod Corners
pub mod Parity
pub mod Pieces
pub mod Plans
