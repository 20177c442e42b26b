-- What a connection's record means, and which records there are.
pub mod Record
