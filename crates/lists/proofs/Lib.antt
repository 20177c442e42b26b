-- Laws on tests, on functions of the index and on lists. Assumes nothing.
pub mod Joined
pub mod Every
pub mod Index
pub mod Lists
pub mod Tables
