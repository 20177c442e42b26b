-- How a connection's promise follows from its sides', and that it settles the outcome. Assumes nothing.
pub mod Sides
pub mod Starting
pub mod Settled
