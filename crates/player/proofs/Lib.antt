-- What turns amount to, and the pieces of their text.
pub mod Turning
pub mod Playing
pub mod Settled
pub mod Filling
pub mod Writing
