-- Laws of a table's slots, and that each promise settles its outcome.
pub mod Slots
pub mod Taken
pub mod Settled
