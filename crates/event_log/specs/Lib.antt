-- What the functions of the log promise.
pub mod Parts
