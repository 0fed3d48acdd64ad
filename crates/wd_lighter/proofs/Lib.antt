pub mod Sorts
pub mod Carried
