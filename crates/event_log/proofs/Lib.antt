-- Laws that the proofs of the functions share, and what the contracts of reading and writing come to. Assumes nothing.
pub mod Rests
pub mod ArrayFields
pub mod Settled
pub mod RoundTrip
