-- What a table means.
pub mod Slots
