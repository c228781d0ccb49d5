-- What a reader must believe of the starred cases, and of the exact product at its ends.
pub mod Cases
pub mod Products
