-- Demand 3 for the records that the card keeps. Assumes nothing.
pub mod Engines
pub mod Halves
pub mod Begun
pub mod Tables
pub mod Connections
