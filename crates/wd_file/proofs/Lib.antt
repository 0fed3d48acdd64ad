pub mod Certified
pub mod Entries
