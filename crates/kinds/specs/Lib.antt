-- Lists in the code's arrays.
pub mod Padded
