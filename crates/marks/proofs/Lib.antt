-- What the proofs share, of a mark set and of the search for one; and that both functions' contracts settle their results. Assumes nothing.
pub mod Setting
pub mod Search
pub mod Settled
