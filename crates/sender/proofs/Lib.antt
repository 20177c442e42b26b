-- The first record, an event on a record's head, and that each promise settles its outcome. Assumes nothing.
pub mod Starting
pub mod Stepping
pub mod Settled
