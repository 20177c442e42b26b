-- The bits of a row of words.
pub mod Row
