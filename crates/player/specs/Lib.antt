-- What a replay promises: its turns, and the pieces of its text.
pub mod Play
pub mod Piece
