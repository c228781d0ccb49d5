-- The hand-written modules of this crate, besides the proofs of its functions.
pub mod Laws
