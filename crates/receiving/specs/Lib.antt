-- What a head over its words means, and which there are.
pub mod Lent
