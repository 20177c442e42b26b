-- What a reply's line shows.
pub mod Shown
