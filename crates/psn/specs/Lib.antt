-- The circle of packet numbers.
pub mod Psn
