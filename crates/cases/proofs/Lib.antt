-- The hand-written modules of this crate.
mod Laws
