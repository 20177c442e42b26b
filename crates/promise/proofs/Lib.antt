-- What holds of every outcome and of every promise. Assumes nothing.
pub mod Refusing
pub mod Outcomes
pub mod Meeting
pub mod Settled
