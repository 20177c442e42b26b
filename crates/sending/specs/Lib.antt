-- What a head over its rows means, and which there are.
pub mod Lent
