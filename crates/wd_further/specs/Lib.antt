pub mod Tries
pub mod Finds
