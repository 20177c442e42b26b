-- Marks over rows of words.
pub mod Marks
