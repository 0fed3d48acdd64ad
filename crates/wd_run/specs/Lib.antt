pub mod Runs
pub mod Causes
pub mod Loads
pub mod Laws
