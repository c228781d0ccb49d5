-- The proofs.
pub mod Cases
pub mod Products
