-- Laws that the proofs of the functions share, and what the contracts come to. Assumes nothing.
pub mod Padded
pub mod Layouts
pub mod Settled
