-- What a line shows, by the answer's case.
pub mod Showing
