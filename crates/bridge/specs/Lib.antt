-- Demand 3 for the records that the card keeps.
pub mod Engines
pub mod Tables
pub mod Connections
