-- What a sender's record means, and which records there are.
pub mod Record
