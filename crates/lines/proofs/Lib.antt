-- Laws of text in a buffer, and of the decimal digits of a number. Assumes nothing.
pub mod Putting
pub mod Room
pub mod Decimal
