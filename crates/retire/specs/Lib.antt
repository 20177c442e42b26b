-- What a SACK does to rows of words, and what is left of them at the front.
pub mod Rows
pub mod Front
