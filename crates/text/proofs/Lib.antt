-- Laws of the text. Assumes nothing.
pub mod Telling
