-- Functions of the index, and a word's bits as one of them.
pub mod Word
