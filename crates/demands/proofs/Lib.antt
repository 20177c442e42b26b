-- The three demands hold.
pub mod Demands
