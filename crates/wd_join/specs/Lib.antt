pub mod Joins
pub mod Matching
pub mod Paired
