-- What other crates cite: laws on functions of the index, on tests, and on a word's bits. Assumes nothing.
pub mod Compare
pub mod Bits
