-- The text of a replay.
pub mod Text
