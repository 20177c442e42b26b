-- What the program writes, counted. Assumes nothing.
pub mod Written
