-- The hand-written modules of this crate that belong to no one function.
pub mod Laws
