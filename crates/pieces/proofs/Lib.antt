-- The hand-written modules of this crate: there is no function.
pub mod Laws
