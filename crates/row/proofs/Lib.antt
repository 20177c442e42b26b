-- What other crates cite: laws of the bits of a row of words, and that the bits settle the row. Assumes nothing.
pub mod Rows
pub mod Settled
