pub mod Readings
pub mod Causes
pub mod Laws
