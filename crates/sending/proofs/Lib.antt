-- What the functions' proofs share, from the general laws to one event each; and that the promise settles its outcome. Assumes nothing.
pub mod Entries
pub mod Refused
pub mod Sent
pub mod Marked
pub mod Resent
pub mod Acknowledged
pub mod Settled
