-- The first record, and that each contract settles its outcome. Assumes nothing.
pub mod Starting
pub mod Settled
