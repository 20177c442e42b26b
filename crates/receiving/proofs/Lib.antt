-- Laws of the verdict and of a head's words, and that an arrival's contract settles its outcome. Assumes nothing.
pub mod Ways
pub mod Entries
pub mod Accepting
pub mod Counting
pub mod Blocks
pub mod Settled
