-- What a receiver's record means, and which records there are.
pub mod Record
