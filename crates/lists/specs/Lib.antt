-- Functions of the index, and words for lists.
pub mod Index
pub mod Lists
