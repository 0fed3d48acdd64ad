pub mod Joining
pub mod Needing
